-- Small terms against the parts of the test of a rule.
use Rattle.std.specs.Prelude.{[], ◌∷◌, codes, refl}
use Rattle.std.proofs.Common.{inr, arith}
use Rattle.kola_values.specs.Types.{TInt, TStr}
use Rattle.kola_term.specs.Terms.{FFst, FSnd, FComp, FMeta, TermF}
use Rattle.kola_term.specs.Typing.{MFun}
use Rattle.kola_match.specs.RuleChecks.{IsWithin, OccursOnASide}

-- f stands behind (f o snd) on the right side
on_the_right : OccursOnASide (TermF FFst) (TermF (FComp (FMeta (codes "f")) FSnd)) (codes "f", MFun TInt TStr)
on_the_right = inr (1 ∷ [], refl)

three_nodes : IsWithin (TermF (FComp FFst FSnd))
three_nodes = (omega arith, omega arith)

-- Laws of comparisons.
use Rattle.std.specs.Prelude.{true, List, [], ◌∷◌, codes}
use Rattle.kola_values.specs.Types.{TPair}
use Rattle.kola_term.specs.Terms.{CMeta, FId, FFst, FSnd, FPair, FK, FMeta, PEq, PLt, PLe, PAt, POr, PNot, PInv, PKP, PCP, PMeta, TermP}
use Rattle.kola_term.specs.Typing.{MFun, MPred, MConst}
use Rattle.kola_rule.specs.Rules.{RuleTree}
use Rattle.kola_laws.specs.Letters.{f, p, x, a, b, c}

-- inv_def (p: pred (b, a)) at (a, b): inv(p) = (p @ <snd, fst>)
abbrev pub inv_def : RuleTree
inv_def = record { name = codes "inv_def"; vars = (p, MPred (TPair b a)) ∷ []; input = TPair a b; when = []; left = TermP (PInv (PMeta p)); right = TermP (PAt (PMeta p) (FPair FSnd FFst)) }

-- cp_def (p: pred (c, a), x: c) at a: CP(p, x) = (p @ <K(x), id>)
abbrev pub cp_def : RuleTree
cp_def = record { name = codes "cp_def"; vars = (p, MPred (TPair c a)) ∷ (x, MConst c) ∷ []; input = a; when = []; left = TermP (PCP (PMeta p) (CMeta x)); right = TermP (PAt (PMeta p) (FPair (FK (CMeta x)) FId)) }

-- eq_self (f: a -> b) at a: (eq @ <f, f>) = KP(true)
abbrev pub eq_self : RuleTree
eq_self = record { name = codes "eq_self"; vars = (f, MFun a b) ∷ []; input = a; when = []; left = TermP (PAt PEq (FPair (FMeta f) (FMeta f))); right = TermP (PKP true) }

-- eq_comm () at (a, a): (eq @ <snd, fst>) = eq
abbrev pub eq_comm : RuleTree
eq_comm = record { name = codes "eq_comm"; vars = []; input = TPair a a; when = []; left = TermP (PAt PEq (FPair FSnd FFst)); right = TermP PEq }

-- not_le () at (a, a): ~le = (lt @ <snd, fst>)
abbrev pub not_le : RuleTree
not_le = record { name = codes "not_le"; vars = []; input = TPair a a; when = []; left = TermP (PNot PLe); right = TermP (PAt PLt (FPair FSnd FFst)) }

-- le_or () at (a, a): le = (lt | eq)
abbrev pub le_or : RuleTree
le_or = record { name = codes "le_or"; vars = []; input = TPair a a; when = []; left = TermP PLe; right = TermP (POr PLt PEq) }

abbrev pub comparison : List RuleTree
comparison = inv_def ∷ cp_def ∷ eq_self ∷ eq_comm ∷ not_le ∷ le_or ∷ []

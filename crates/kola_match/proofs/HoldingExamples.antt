-- Rules that do not hold.
use Rattle.std.specs.Prelude.{◌≡◌, true, false, [], ◌∷◌, codes, refl}
use Rattle.std.proofs.Common.{true≢false}
use Rattle.kola_values.specs.Values.{VBool, VPair}
use Rattle.kola_values.specs.Order.{same}
use Rattle.kola_values.specs.Types.{TBool, TPair}
use Rattle.kola_schema.specs.Meets.{Meets}
use Rattle.kola_term.specs.Terms.{CBool, FFst, FSnd, FK, FTimes, FMeta, PEq, PAt, TermF, TermP}
use Rattle.kola_term.specs.Typing.{MFun}
use Rattle.kola_rule.specs.Rules.{RuleTree}
use Rattle.kola_match.specs.Substitutions.{Substitution}
use Rattle.kola_match.specs.Holding.{Holds}

abbrev s : Substitution
s = record { types = λ n. TBool; funs = λ n. FK (CBool true); preds = λ n. PEq; consts = λ n. CBool true }

nothing_meets : Meets [] []
nothing_meets = record { distinct = tt; fits = tt; keys = λ c n key v w e h k g. absurd (cc) }

-- fst = snd
abbrev parts_equal : RuleTree
parts_equal = record { name = codes "parts_equal"; vars = []; input = TPair TBool TBool; when = []; left = TermF FFst; right = TermF FSnd }

parts_differ : Holds [] parts_equal → ⊥
parts_differ h = let e : VBool true ≡ VBool false = h [] nothing_meets s tt tt (VPair (VBool true) (VBool false)) (tt, tt) in absurd (cc)

-- (eq @ (f * f)) = eq, of any function
abbrev any_function : RuleTree
any_function = record { name = codes "any_function"; vars = (codes "f", MFun TBool TBool) ∷ []; input = TPair TBool TBool; when = []; left = TermP (PAt PEq (FTimes (FMeta (codes "f")) (FMeta (codes "f")))); right = TermP PEq }

some_function : Holds [] any_function → ⊥
unfolding same
some_function h = true≢false (h [] nothing_meets s (refl, tt) tt (VPair (VBool true) (VBool false)) (tt, tt))

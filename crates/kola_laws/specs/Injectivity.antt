-- Laws of injective functions.
use Rattle.std.specs.Prelude.{true, List, [], ◌∷◌, codes}
use Rattle.kola_values.specs.Types.{TSet, TPair}
use Rattle.kola_term.specs.Terms.{FIsect, FMinus, FComp, FTimes, FIterate, FMeta, PEq, PMember, PAt, PKP, TermF, TermP}
use Rattle.kola_term.specs.Typing.{MFun}
use Rattle.kola_rule.specs.Rules.{RuleTree}
use Rattle.kola_laws.specs.Letters.{f, a, b}

-- eq_inj (f: a -> b) at (a, a) when inj(f): (eq @ (f * f)) = eq
abbrev pub eq_inj : RuleTree
eq_inj = record { name = codes "eq_inj"; vars = (f, MFun a b) ∷ []; input = TPair a a; when = f ∷ []; left = TermP (PAt PEq (FTimes (FMeta f) (FMeta f))); right = TermP PEq }

-- in_inj (f: a -> b) at (a, set a) when inj(f): (in @ (f * iterate(KP(true), f))) = in
abbrev pub in_inj : RuleTree
in_inj = record { name = codes "in_inj"; vars = (f, MFun a b) ∷ []; input = TPair a (TSet a); when = f ∷ []; left = TermP (PAt PMember (FTimes (FMeta f) (FIterate (PKP true) (FMeta f)))); right = TermP PMember }

-- isect_inj (f: a -> b) at (set a, set a) when inj(f): (iterate(KP(true), f) o isect) = (isect o (iterate(KP(true), f) * iterate(KP(true), f)))
abbrev pub isect_inj : RuleTree
isect_inj = record { name = codes "isect_inj"; vars = (f, MFun a b) ∷ []; input = TPair (TSet a) (TSet a); when = f ∷ []; left = TermF (FComp (FIterate (PKP true) (FMeta f)) FIsect); right = TermF (FComp FIsect (FTimes (FIterate (PKP true) (FMeta f)) (FIterate (PKP true) (FMeta f)))) }

-- minus_inj (f: a -> b) at (set a, set a) when inj(f): (iterate(KP(true), f) o minus) = (minus o (iterate(KP(true), f) * iterate(KP(true), f)))
abbrev pub minus_inj : RuleTree
minus_inj = record { name = codes "minus_inj"; vars = (f, MFun a b) ∷ []; input = TPair (TSet a) (TSet a); when = f ∷ []; left = TermF (FComp (FIterate (PKP true) (FMeta f)) FMinus); right = TermF (FComp FMinus (FTimes (FIterate (PKP true) (FMeta f)) (FIterate (PKP true) (FMeta f)))) }

abbrev pub injectivity : List RuleTree
injectivity = eq_inj ∷ in_inj ∷ isect_inj ∷ minus_inj ∷ []

-- Laws of nesting and unnesting.
use Rattle.std.specs.Prelude.{true, List, [], ◌∷◌, codes}
use Rattle.kola_values.specs.Types.{TSet, TPair}
use Rattle.kola_term.specs.Terms.{CMeta, FId, FFst, FSnd, FFlat, FComp, FPair, FK, FIterate, FIter, FJoin, FNest, FUnnest, FMeta, PEq, PAt, PKP, PMeta, TermF}
use Rattle.kola_term.specs.Typing.{MFun, MPred, MConst}
use Rattle.kola_rule.specs.Rules.{RuleTree}
use Rattle.kola_laws.specs.Letters.{f, g, p, x, y, a, b, c, d}

-- nest_def (f: a -> b, g: a -> c) at (set a, set b): nest(f, g) = iter(KP(true), <snd, (iter((eq @ <(f o snd), fst>), (g o snd)) o <snd, fst>)>)
abbrev pub nest_def : RuleTree
nest_def = record { name = codes "nest_def"; vars = (f, MFun a b) ∷ (g, MFun a c) ∷ []; input = TPair (TSet a) (TSet b); when = []; left = TermF (FNest (FMeta f) (FMeta g)); right = TermF (FIter (PKP true) (FPair FSnd (FComp (FIter (PAt PEq (FPair (FComp (FMeta f) FSnd) FFst)) (FComp (FMeta g) FSnd)) (FPair FSnd FFst)))) }

-- unnest_def (f: a -> b, g: a -> set c) at set a: unnest(f, g) = (flat o iterate(KP(true), (iter(KP(true), id) o <f, g>)))
abbrev pub unnest_def : RuleTree
unnest_def = record { name = codes "unnest_def"; vars = (f, MFun a b) ∷ (g, MFun a (TSet c)) ∷ []; input = TSet a; when = []; left = TermF (FUnnest (FMeta f) (FMeta g)); right = TermF (FComp FFlat (FIterate (PKP true) (FComp (FIter (PKP true) FId) (FPair (FMeta f) (FMeta g))))) }

-- nest_join (p: pred (a, b), f: (a, b) -> c) at (set a, set b): (iter(KP(true), <snd, (iter(p, f) o <snd, fst>)>) o <snd, fst>) = (nest(fst, snd) o <join(p, <fst, f>), fst>)
abbrev pub nest_join : RuleTree
nest_join = record { name = codes "nest_join"; vars = (p, MPred (TPair a b)) ∷ (f, MFun (TPair a b) c) ∷ []; input = TPair (TSet a) (TSet b); when = []; left = TermF (FComp (FIter (PKP true) (FPair FSnd (FComp (FIter (PMeta p) (FMeta f)) (FPair FSnd FFst)))) (FPair FSnd FFst)); right = TermF (FComp (FNest FFst FSnd) (FPair (FJoin (PMeta p) (FPair FFst (FMeta f))) FFst)) }

-- nest_unnest (p: pred (a, b), f: (a, b) -> set c) at (set a, set b): (iter(KP(true), <snd, (flat o (iter(p, f) o <snd, fst>))>) o <snd, fst>) = (nest(fst, snd) o <(unnest(fst, snd) o join(p, <fst, f>)), fst>)
abbrev pub nest_unnest : RuleTree
nest_unnest = record { name = codes "nest_unnest"; vars = (p, MPred (TPair a b)) ∷ (f, MFun (TPair a b) (TSet c)) ∷ []; input = TPair (TSet a) (TSet b); when = []; left = TermF (FComp (FIter (PKP true) (FPair FSnd (FComp FFlat (FComp (FIter (PMeta p) (FMeta f)) (FPair FSnd FFst))))) (FPair FSnd FFst)); right = TermF (FComp (FNest FFst FSnd) (FPair (FComp (FUnnest FFst FSnd) (FJoin (PMeta p) (FPair FFst (FMeta f)))) FFst)) }

-- nest_const (p: pred (b, c), f: (b, c) -> d, x: set c, y: set b) at a: (iter(KP(true), <snd, (iter(p, f) o <snd, K(x)>)>) o <id, K(y)>) = ((nest(fst, snd) o <join(p, <fst, f>), fst>) o <K(y), K(x)>)
abbrev pub nest_const : RuleTree
nest_const = record { name = codes "nest_const"; vars = (p, MPred (TPair b c)) ∷ (f, MFun (TPair b c) d) ∷ (x, MConst (TSet c)) ∷ (y, MConst (TSet b)) ∷ []; input = a; when = []; left = TermF (FComp (FIter (PKP true) (FPair FSnd (FComp (FIter (PMeta p) (FMeta f)) (FPair FSnd (FK (CMeta x)))))) (FPair FId (FK (CMeta y)))); right = TermF (FComp (FComp (FNest FFst FSnd) (FPair (FJoin (PMeta p) (FPair FFst (FMeta f))) FFst)) (FPair (FK (CMeta y)) (FK (CMeta x)))) }

abbrev pub nesting : List RuleTree
nesting = nest_def ∷ unnest_def ∷ nest_join ∷ nest_unnest ∷ nest_const ∷ []

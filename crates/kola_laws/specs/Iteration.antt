-- Laws of iteration over sets.
use Rattle.std.specs.Prelude.{true, List, [], ◌∷◌, codes}
use Rattle.kola_values.specs.Types.{TSet, TPair}
use Rattle.kola_term.specs.Terms.{CMeta, FId, FFst, FSnd, FFlat, FComp, FPair, FTimes, FK, FIterate, FIter, FMeta, PAt, PAnd, PKP, PMeta, TermF}
use Rattle.kola_term.specs.Typing.{MFun, MPred, MConst}
use Rattle.kola_rule.specs.Rules.{RuleTree}
use Rattle.kola_laws.specs.Letters.{f, g, h, p, q, x, a, b, c, d}

-- iterate_id () at set a: iterate(KP(true), id) = id
abbrev pub iterate_id : RuleTree
iterate_id = record { name = codes "iterate_id"; vars = []; input = TSet a; when = []; left = TermF (FIterate (PKP true) FId); right = TermF FId }

-- iterate_iterate (p: pred b, f: b -> c, q: pred a, g: a -> b) at set a: (iterate(p, f) o iterate(q, g)) = iterate((q & (p @ g)), (f o g))
abbrev pub iterate_iterate : RuleTree
iterate_iterate = record { name = codes "iterate_iterate"; vars = (p, MPred b) ∷ (f, MFun b c) ∷ (q, MPred a) ∷ (g, MFun a b) ∷ []; input = TSet a; when = []; left = TermF (FComp (FIterate (PMeta p) (FMeta f)) (FIterate (PMeta q) (FMeta g))); right = TermF (FIterate (PAnd (PMeta q) (PAt (PMeta p) (FMeta g))) (FComp (FMeta f) (FMeta g))) }

-- iter_snd (p: pred b, f: b -> c) at (a, set b): iter((p @ snd), (f o snd)) = (iterate(p, f) o snd)
abbrev pub iter_snd : RuleTree
iter_snd = record { name = codes "iter_snd"; vars = (p, MPred b) ∷ (f, MFun b c) ∷ []; input = TPair a (TSet b); when = []; left = TermF (FIter (PAt (PMeta p) FSnd) (FComp (FMeta f) FSnd)); right = TermF (FComp (FIterate (PMeta p) (FMeta f)) FSnd) }

-- iter_iter (p: pred (a, c), f: (a, c) -> d, q: pred (a, b), g: (a, b) -> c) at (a, set b): (iter(p, f) o <fst, iter(q, g)>) = iter((q & (p @ <fst, g>)), (f o <fst, g>))
abbrev pub iter_iter : RuleTree
iter_iter = record { name = codes "iter_iter"; vars = (p, MPred (TPair a c)) ∷ (f, MFun (TPair a c) d) ∷ (q, MPred (TPair a b)) ∷ (g, MFun (TPair a b) c) ∷ []; input = TPair a (TSet b); when = []; left = TermF (FComp (FIter (PMeta p) (FMeta f)) (FPair FFst (FIter (PMeta q) (FMeta g)))); right = TermF (FIter (PAnd (PMeta q) (PAt (PMeta p) (FPair FFst (FMeta g)))) (FComp (FMeta f) (FPair FFst (FMeta g)))) }

-- iter_env (p: pred (b, c), f: (b, c) -> d, h: a -> b) at (a, set c): (iter(p, f) o (h * id)) = iter((p @ (h * id)), (f o (h * id)))
abbrev pub iter_env : RuleTree
iter_env = record { name = codes "iter_env"; vars = (p, MPred (TPair b c)) ∷ (f, MFun (TPair b c) d) ∷ (h, MFun a b) ∷ []; input = TPair a (TSet c); when = []; left = TermF (FComp (FIter (PMeta p) (FMeta f)) (FTimes (FMeta h) FId)); right = TermF (FIter (PAt (PMeta p) (FTimes (FMeta h) FId)) (FComp (FMeta f) (FTimes (FMeta h) FId))) }

-- iter_const (p: pred (b, c), f: (b, c) -> d, x: b, g: a -> set c) at a: (iter(p, f) o <K(x), g>) = (iterate((p @ <K(x), id>), (f o <K(x), id>)) o g)
abbrev pub iter_const : RuleTree
iter_const = record { name = codes "iter_const"; vars = (p, MPred (TPair b c)) ∷ (f, MFun (TPair b c) d) ∷ (x, MConst b) ∷ (g, MFun a (TSet c)) ∷ []; input = a; when = []; left = TermF (FComp (FIter (PMeta p) (FMeta f)) (FPair (FK (CMeta x)) (FMeta g))); right = TermF (FComp (FIterate (PAt (PMeta p) (FPair (FK (CMeta x)) FId)) (FComp (FMeta f) (FPair (FK (CMeta x)) FId))) (FMeta g)) }

-- flat_iterate (p: pred a, f: a -> b) at set set a: (flat o iterate(KP(true), iterate(p, f))) = (iterate(p, f) o flat)
abbrev pub flat_iterate : RuleTree
flat_iterate = record { name = codes "flat_iterate"; vars = (p, MPred a) ∷ (f, MFun a b) ∷ []; input = TSet (TSet a); when = []; left = TermF (FComp FFlat (FIterate (PKP true) (FIterate (PMeta p) (FMeta f)))); right = TermF (FComp (FIterate (PMeta p) (FMeta f)) FFlat) }

-- flat_flat () at set set set a: (flat o flat) = (flat o iterate(KP(true), flat))
abbrev pub flat_flat : RuleTree
flat_flat = record { name = codes "flat_flat"; vars = []; input = TSet (TSet (TSet a)); when = []; left = TermF (FComp FFlat FFlat); right = TermF (FComp FFlat (FIterate (PKP true) FFlat)) }

-- flat_iter (p: pred (a, b), f: (a, b) -> c) at (a, set set b): (flat o iter(KP(true), iter(p, f))) = (iter(p, f) o <fst, (flat o snd)>)
abbrev pub flat_iter : RuleTree
flat_iter = record { name = codes "flat_iter"; vars = (p, MPred (TPair a b)) ∷ (f, MFun (TPair a b) c) ∷ []; input = TPair a (TSet (TSet b)); when = []; left = TermF (FComp FFlat (FIter (PKP true) (FIter (PMeta p) (FMeta f)))); right = TermF (FComp (FIter (PMeta p) (FMeta f)) (FPair FFst (FComp FFlat FSnd))) }

-- iterate_iter (p: pred (a, b), f: (a, b) -> c, q: pred c, g: c -> d) at (a, set b): (iterate(q, g) o iter(p, f)) = iter((p & (q @ f)), (g o f))
abbrev pub iterate_iter : RuleTree
iterate_iter = record { name = codes "iterate_iter"; vars = (p, MPred (TPair a b)) ∷ (f, MFun (TPair a b) c) ∷ (q, MPred c) ∷ (g, MFun c d) ∷ []; input = TPair a (TSet b); when = []; left = TermF (FComp (FIterate (PMeta q) (FMeta g)) (FIter (PMeta p) (FMeta f))); right = TermF (FIter (PAnd (PMeta p) (PAt (PMeta q) (FMeta f))) (FComp (FMeta g) (FMeta f))) }

abbrev pub iteration : List RuleTree
iteration = iterate_id ∷ iterate_iterate ∷ iter_snd ∷ iter_iter ∷ iter_env ∷ iter_const ∷ flat_iterate ∷ flat_flat ∷ flat_iter ∷ iterate_iter ∷ []

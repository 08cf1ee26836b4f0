-- Laws of joins.
use Rattle.std.specs.Prelude.{true, List, [], ◌∷◌, codes}
use Rattle.kola_values.specs.Types.{TSet, TPair}
use Rattle.kola_term.specs.Terms.{FId, FFst, FSnd, FFlat, FIsect, FComp, FPair, FTimes, FIterate, FIter, FJoin, FMeta, PEq, PAt, PAnd, PKP, PMeta, TermF}
use Rattle.kola_term.specs.Typing.{MFun, MPred}
use Rattle.kola_rule.specs.Rules.{RuleTree}
use Rattle.kola_laws.specs.Letters.{f, g, p, q, a, b, c, d}

-- join_def (p: pred (a, b), f: (a, b) -> c) at (set a, set b): join(p, f) = (flat o (iter(KP(true), (iter(p, f) o <snd, fst>)) o <snd, fst>))
abbrev pub join_def : RuleTree
join_def = record { name = codes "join_def"; vars = (p, MPred (TPair a b)) ∷ (f, MFun (TPair a b) c) ∷ []; input = TPair (TSet a) (TSet b); when = []; left = TermF (FJoin (PMeta p) (FMeta f)); right = TermF (FComp FFlat (FComp (FIter (PKP true) (FComp (FIter (PMeta p) (FMeta f)) (FPair FSnd FFst))) (FPair FSnd FFst))) }

-- join_comm (p: pred (a, b), f: (a, b) -> c) at (set a, set b): join(p, f) = (join((p @ <snd, fst>), (f o <snd, fst>)) o <snd, fst>)
abbrev pub join_comm : RuleTree
join_comm = record { name = codes "join_comm"; vars = (p, MPred (TPair a b)) ∷ (f, MFun (TPair a b) c) ∷ []; input = TPair (TSet a) (TSet b); when = []; left = TermF (FJoin (PMeta p) (FMeta f)); right = TermF (FComp (FJoin (PAt (PMeta p) (FPair FSnd FFst)) (FComp (FMeta f) (FPair FSnd FFst))) (FPair FSnd FFst)) }

-- join_left (p: pred (c, b), f: (c, b) -> d, q: pred a, g: a -> c) at (set a, set b): (join(p, f) o (iterate(q, g) * id)) = join(((q @ fst) & (p @ (g * id))), (f o (g * id)))
abbrev pub join_left : RuleTree
join_left = record { name = codes "join_left"; vars = (p, MPred (TPair c b)) ∷ (f, MFun (TPair c b) d) ∷ (q, MPred a) ∷ (g, MFun a c) ∷ []; input = TPair (TSet a) (TSet b); when = []; left = TermF (FComp (FJoin (PMeta p) (FMeta f)) (FTimes (FIterate (PMeta q) (FMeta g)) FId)); right = TermF (FJoin (PAnd (PAt (PMeta q) FFst) (PAt (PMeta p) (FTimes (FMeta g) FId))) (FComp (FMeta f) (FTimes (FMeta g) FId))) }

-- join_right (p: pred (a, c), f: (a, c) -> d, q: pred b, g: b -> c) at (set a, set b): (join(p, f) o (id * iterate(q, g))) = join(((q @ snd) & (p @ (id * g))), (f o (id * g)))
abbrev pub join_right : RuleTree
join_right = record { name = codes "join_right"; vars = (p, MPred (TPair a c)) ∷ (f, MFun (TPair a c) d) ∷ (q, MPred b) ∷ (g, MFun b c) ∷ []; input = TPair (TSet a) (TSet b); when = []; left = TermF (FComp (FJoin (PMeta p) (FMeta f)) (FTimes FId (FIterate (PMeta q) (FMeta g)))); right = TermF (FJoin (PAnd (PAt (PMeta q) FSnd) (PAt (PMeta p) (FTimes FId (FMeta g)))) (FComp (FMeta f) (FTimes FId (FMeta g)))) }

-- join_select_left (p: pred (a, b), f: (a, b) -> c, q: pred a) at (set a, set b): join((p & (q @ fst)), f) = (join(p, f) o (iterate(q, id) * id))
abbrev pub join_select_left : RuleTree
join_select_left = record { name = codes "join_select_left"; vars = (p, MPred (TPair a b)) ∷ (f, MFun (TPair a b) c) ∷ (q, MPred a) ∷ []; input = TPair (TSet a) (TSet b); when = []; left = TermF (FJoin (PAnd (PMeta p) (PAt (PMeta q) FFst)) (FMeta f)); right = TermF (FComp (FJoin (PMeta p) (FMeta f)) (FTimes (FIterate (PMeta q) FId) FId)) }

-- join_select_right (p: pred (a, b), f: (a, b) -> c, q: pred b) at (set a, set b): join((p & (q @ snd)), f) = (join(p, f) o (id * iterate(q, id)))
abbrev pub join_select_right : RuleTree
join_select_right = record { name = codes "join_select_right"; vars = (p, MPred (TPair a b)) ∷ (f, MFun (TPair a b) c) ∷ (q, MPred b) ∷ []; input = TPair (TSet a) (TSet b); when = []; left = TermF (FJoin (PAnd (PMeta p) (PAt (PMeta q) FSnd)) (FMeta f)); right = TermF (FComp (FJoin (PMeta p) (FMeta f)) (FTimes FId (FIterate (PMeta q) FId))) }

-- iterate_join (p: pred (a, b), f: (a, b) -> c, q: pred c, g: c -> d) at (set a, set b): (iterate(q, g) o join(p, f)) = join((p & (q @ f)), (g o f))
abbrev pub iterate_join : RuleTree
iterate_join = record { name = codes "iterate_join"; vars = (p, MPred (TPair a b)) ∷ (f, MFun (TPair a b) c) ∷ (q, MPred c) ∷ (g, MFun c d) ∷ []; input = TPair (TSet a) (TSet b); when = []; left = TermF (FComp (FIterate (PMeta q) (FMeta g)) (FJoin (PMeta p) (FMeta f))); right = TermF (FJoin (PAnd (PMeta p) (PAt (PMeta q) (FMeta f))) (FComp (FMeta g) (FMeta f))) }

-- join_isect () at (set a, set a): join(eq, fst) = isect
abbrev pub join_isect : RuleTree
join_isect = record { name = codes "join_isect"; vars = []; input = TPair (TSet a) (TSet a); when = []; left = TermF (FJoin PEq FFst); right = TermF FIsect }

abbrev pub joining : List RuleTree
joining = join_def ∷ join_comm ∷ join_left ∷ join_right ∷ join_select_left ∷ join_select_right ∷ iterate_join ∷ join_isect ∷ []

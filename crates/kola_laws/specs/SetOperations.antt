-- Laws of union, intersection and difference.
use Rattle.std.specs.Prelude.{List, [], ◌∷◌, codes}
use Rattle.kola_values.specs.Types.{TSet, TPair}
use Rattle.kola_term.specs.Terms.{FId, FFst, FSnd, FUnion, FIsect, FMinus, FComp, FPair, FTimes, FIterate, FMeta, PAnd, POr, PNot, PMeta, TermF}
use Rattle.kola_term.specs.Typing.{MFun, MPred}
use Rattle.kola_rule.specs.Rules.{RuleTree}
use Rattle.kola_laws.specs.Letters.{f, p, q, a, b}

-- iterate_union (p: pred a, f: a -> b) at (set a, set a): (iterate(p, f) o union) = (union o (iterate(p, f) * iterate(p, f)))
abbrev pub iterate_union : RuleTree
iterate_union = record { name = codes "iterate_union"; vars = (p, MPred a) ∷ (f, MFun a b) ∷ []; input = TPair (TSet a) (TSet a); when = []; left = TermF (FComp (FIterate (PMeta p) (FMeta f)) FUnion); right = TermF (FComp FUnion (FTimes (FIterate (PMeta p) (FMeta f)) (FIterate (PMeta p) (FMeta f)))) }

-- iterate_or (p: pred a, q: pred a, f: a -> b) at set a: iterate((p | q), f) = (union o <iterate(p, f), iterate(q, f)>)
abbrev pub iterate_or : RuleTree
iterate_or = record { name = codes "iterate_or"; vars = (p, MPred a) ∷ (q, MPred a) ∷ (f, MFun a b) ∷ []; input = TSet a; when = []; left = TermF (FIterate (POr (PMeta p) (PMeta q)) (FMeta f)); right = TermF (FComp FUnion (FPair (FIterate (PMeta p) (FMeta f)) (FIterate (PMeta q) (FMeta f)))) }

-- iterate_and_not (p: pred a, q: pred a) at set a: iterate((p & ~q), id) = (minus o <iterate(p, id), iterate(q, id)>)
abbrev pub iterate_and_not : RuleTree
iterate_and_not = record { name = codes "iterate_and_not"; vars = (p, MPred a) ∷ (q, MPred a) ∷ []; input = TSet a; when = []; left = TermF (FIterate (PAnd (PMeta p) (PNot (PMeta q))) FId); right = TermF (FComp FMinus (FPair (FIterate (PMeta p) FId) (FIterate (PMeta q) FId))) }

-- iterate_and (p: pred a, q: pred a) at set a: iterate((p & q), id) = (isect o <iterate(p, id), iterate(q, id)>)
abbrev pub iterate_and : RuleTree
iterate_and = record { name = codes "iterate_and"; vars = (p, MPred a) ∷ (q, MPred a) ∷ []; input = TSet a; when = []; left = TermF (FIterate (PAnd (PMeta p) (PMeta q)) FId); right = TermF (FComp FIsect (FPair (FIterate (PMeta p) FId) (FIterate (PMeta q) FId))) }

-- union_same (f: a -> set b) at a: (union o <f, f>) = f
abbrev pub union_same : RuleTree
union_same = record { name = codes "union_same"; vars = (f, MFun a (TSet b)) ∷ []; input = a; when = []; left = TermF (FComp FUnion (FPair (FMeta f) (FMeta f))); right = TermF (FMeta f) }

-- union_comm () at (set a, set a): (union o <snd, fst>) = union
abbrev pub union_comm : RuleTree
union_comm = record { name = codes "union_comm"; vars = []; input = TPair (TSet a) (TSet a); when = []; left = TermF (FComp FUnion (FPair FSnd FFst)); right = TermF FUnion }

abbrev pub set_operations : List RuleTree
set_operations = iterate_union ∷ iterate_or ∷ iterate_and_not ∷ iterate_and ∷ union_same ∷ union_comm ∷ []

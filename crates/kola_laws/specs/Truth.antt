-- Laws of truth.
use Rattle.std.specs.Prelude.{true, false, List, [], ◌∷◌, codes}
use Rattle.kola_term.specs.Terms.{PAnd, POr, PNot, PKP, PMeta, TermP}
use Rattle.kola_term.specs.Typing.{MPred}
use Rattle.kola_rule.specs.Rules.{RuleTree}
use Rattle.kola_laws.specs.Letters.{p, q, r, a}

-- and_true (p: pred a) at a: (p & KP(true)) = p
abbrev pub and_true : RuleTree
and_true = record { name = codes "and_true"; vars = (p, MPred a) ∷ []; input = a; when = []; left = TermP (PAnd (PMeta p) (PKP true)); right = TermP (PMeta p) }

-- and_false (p: pred a) at a: (p & KP(false)) = KP(false)
abbrev pub and_false : RuleTree
and_false = record { name = codes "and_false"; vars = (p, MPred a) ∷ []; input = a; when = []; left = TermP (PAnd (PMeta p) (PKP false)); right = TermP (PKP false) }

-- or_true (p: pred a) at a: (p | KP(true)) = KP(true)
abbrev pub or_true : RuleTree
or_true = record { name = codes "or_true"; vars = (p, MPred a) ∷ []; input = a; when = []; left = TermP (POr (PMeta p) (PKP true)); right = TermP (PKP true) }

-- or_false (p: pred a) at a: (p | KP(false)) = p
abbrev pub or_false : RuleTree
or_false = record { name = codes "or_false"; vars = (p, MPred a) ∷ []; input = a; when = []; left = TermP (POr (PMeta p) (PKP false)); right = TermP (PMeta p) }

-- and_same (p: pred a) at a: (p & p) = p
abbrev pub and_same : RuleTree
and_same = record { name = codes "and_same"; vars = (p, MPred a) ∷ []; input = a; when = []; left = TermP (PAnd (PMeta p) (PMeta p)); right = TermP (PMeta p) }

-- and_comm (p: pred a, q: pred a) at a: (p & q) = (q & p)
abbrev pub and_comm : RuleTree
and_comm = record { name = codes "and_comm"; vars = (p, MPred a) ∷ (q, MPred a) ∷ []; input = a; when = []; left = TermP (PAnd (PMeta p) (PMeta q)); right = TermP (PAnd (PMeta q) (PMeta p)) }

-- or_comm (p: pred a, q: pred a) at a: (p | q) = (q | p)
abbrev pub or_comm : RuleTree
or_comm = record { name = codes "or_comm"; vars = (p, MPred a) ∷ (q, MPred a) ∷ []; input = a; when = []; left = TermP (POr (PMeta p) (PMeta q)); right = TermP (POr (PMeta q) (PMeta p)) }

-- and_assoc (p: pred a, q: pred a, r: pred a) at a: ((p & q) & r) = (p & (q & r))
abbrev pub and_assoc : RuleTree
and_assoc = record { name = codes "and_assoc"; vars = (p, MPred a) ∷ (q, MPred a) ∷ (r, MPred a) ∷ []; input = a; when = []; left = TermP (PAnd (PAnd (PMeta p) (PMeta q)) (PMeta r)); right = TermP (PAnd (PMeta p) (PAnd (PMeta q) (PMeta r))) }

-- or_assoc (p: pred a, q: pred a, r: pred a) at a: ((p | q) | r) = (p | (q | r))
abbrev pub or_assoc : RuleTree
or_assoc = record { name = codes "or_assoc"; vars = (p, MPred a) ∷ (q, MPred a) ∷ (r, MPred a) ∷ []; input = a; when = []; left = TermP (POr (POr (PMeta p) (PMeta q)) (PMeta r)); right = TermP (POr (PMeta p) (POr (PMeta q) (PMeta r))) }

-- not_not (p: pred a) at a: ~~p = p
abbrev pub not_not : RuleTree
not_not = record { name = codes "not_not"; vars = (p, MPred a) ∷ []; input = a; when = []; left = TermP (PNot (PNot (PMeta p))); right = TermP (PMeta p) }

-- not_true () at a: ~KP(true) = KP(false)
abbrev pub not_true : RuleTree
not_true = record { name = codes "not_true"; vars = []; input = a; when = []; left = TermP (PNot (PKP true)); right = TermP (PKP false) }

-- not_and (p: pred a, q: pred a) at a: ~(p & q) = (~p | ~q)
abbrev pub not_and : RuleTree
not_and = record { name = codes "not_and"; vars = (p, MPred a) ∷ (q, MPred a) ∷ []; input = a; when = []; left = TermP (PNot (PAnd (PMeta p) (PMeta q))); right = TermP (POr (PNot (PMeta p)) (PNot (PMeta q))) }

-- not_or (p: pred a, q: pred a) at a: ~(p | q) = (~p & ~q)
abbrev pub not_or : RuleTree
not_or = record { name = codes "not_or"; vars = (p, MPred a) ∷ (q, MPred a) ∷ []; input = a; when = []; left = TermP (PNot (POr (PMeta p) (PMeta q))); right = TermP (PAnd (PNot (PMeta p)) (PNot (PMeta q))) }

-- and_or (p: pred a, q: pred a, r: pred a) at a: ((p | q) & r) = ((p & r) | (q & r))
abbrev pub and_or : RuleTree
and_or = record { name = codes "and_or"; vars = (p, MPred a) ∷ (q, MPred a) ∷ (r, MPred a) ∷ []; input = a; when = []; left = TermP (PAnd (POr (PMeta p) (PMeta q)) (PMeta r)); right = TermP (POr (PAnd (PMeta p) (PMeta r)) (PAnd (PMeta q) (PMeta r))) }

abbrev pub truth : List RuleTree
truth = and_true ∷ and_false ∷ or_true ∷ or_false ∷ and_same ∷ and_comm ∷ or_comm ∷ and_assoc ∷ or_assoc ∷ not_not ∷ not_true ∷ not_and ∷ not_or ∷ and_or ∷ []

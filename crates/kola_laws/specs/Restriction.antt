-- Laws of predicates after a function.
use Rattle.std.specs.Prelude.{true, false, List, [], ◌∷◌, codes}
use Rattle.kola_term.specs.Terms.{FId, FComp, FMeta, PAt, PAnd, POr, PNot, PKP, PMeta, TermP}
use Rattle.kola_term.specs.Typing.{MFun, MPred}
use Rattle.kola_rule.specs.Rules.{RuleTree}
use Rattle.kola_laws.specs.Letters.{f, g, p, q, a, b, c}

-- at_id (p: pred a) at a: (p @ id) = p
abbrev pub at_id : RuleTree
at_id = record { name = codes "at_id"; vars = (p, MPred a) ∷ []; input = a; when = []; left = TermP (PAt (PMeta p) FId); right = TermP (PMeta p) }

-- at_at (p: pred c, f: b -> c, g: a -> b) at a: ((p @ f) @ g) = (p @ (f o g))
abbrev pub at_at : RuleTree
at_at = record { name = codes "at_at"; vars = (p, MPred c) ∷ (f, MFun b c) ∷ (g, MFun a b) ∷ []; input = a; when = []; left = TermP (PAt (PAt (PMeta p) (FMeta f)) (FMeta g)); right = TermP (PAt (PMeta p) (FComp (FMeta f) (FMeta g))) }

-- at_and (p: pred b, q: pred b, f: a -> b) at a: ((p & q) @ f) = ((p @ f) & (q @ f))
abbrev pub at_and : RuleTree
at_and = record { name = codes "at_and"; vars = (p, MPred b) ∷ (q, MPred b) ∷ (f, MFun a b) ∷ []; input = a; when = []; left = TermP (PAt (PAnd (PMeta p) (PMeta q)) (FMeta f)); right = TermP (PAnd (PAt (PMeta p) (FMeta f)) (PAt (PMeta q) (FMeta f))) }

-- at_or (p: pred b, q: pred b, f: a -> b) at a: ((p | q) @ f) = ((p @ f) | (q @ f))
abbrev pub at_or : RuleTree
at_or = record { name = codes "at_or"; vars = (p, MPred b) ∷ (q, MPred b) ∷ (f, MFun a b) ∷ []; input = a; when = []; left = TermP (PAt (POr (PMeta p) (PMeta q)) (FMeta f)); right = TermP (POr (PAt (PMeta p) (FMeta f)) (PAt (PMeta q) (FMeta f))) }

-- at_not (p: pred b, f: a -> b) at a: (~p @ f) = ~(p @ f)
abbrev pub at_not : RuleTree
at_not = record { name = codes "at_not"; vars = (p, MPred b) ∷ (f, MFun a b) ∷ []; input = a; when = []; left = TermP (PAt (PNot (PMeta p)) (FMeta f)); right = TermP (PNot (PAt (PMeta p) (FMeta f))) }

-- at_true (f: a -> b) at a: (KP(true) @ f) = KP(true)
abbrev pub at_true : RuleTree
at_true = record { name = codes "at_true"; vars = (f, MFun a b) ∷ []; input = a; when = []; left = TermP (PAt (PKP true) (FMeta f)); right = TermP (PKP true) }

-- at_false (f: a -> b) at a: (KP(false) @ f) = KP(false)
abbrev pub at_false : RuleTree
at_false = record { name = codes "at_false"; vars = (f, MFun a b) ∷ []; input = a; when = []; left = TermP (PAt (PKP false) (FMeta f)); right = TermP (PKP false) }

abbrev pub restriction : List RuleTree
restriction = at_id ∷ at_at ∷ at_and ∷ at_or ∷ at_not ∷ at_true ∷ at_false ∷ []

-- Laws of quantifiers.
use Rattle.std.specs.Prelude.{List, [], ◌∷◌, codes}
use Rattle.kola_values.specs.Types.{TSet, TPair}
use Rattle.kola_term.specs.Terms.{FId, FFst, FPair, FTimes, FIter, FMeta, PEq, PMember, PAt, PAnd, POr, PNot, PEx, PFa, PMeta, TermP}
use Rattle.kola_term.specs.Typing.{MFun, MPred}
use Rattle.kola_rule.specs.Rules.{RuleTree}
use Rattle.kola_laws.specs.Letters.{g, h, p, q, a, b, c}

-- not_ex (p: pred (a, b)) at (a, set b): ~ex(p) = fa(~p)
abbrev pub not_ex : RuleTree
not_ex = record { name = codes "not_ex"; vars = (p, MPred (TPair a b)) ∷ []; input = TPair a (TSet b); when = []; left = TermP (PNot (PEx (PMeta p))); right = TermP (PFa (PNot (PMeta p))) }

-- not_fa (p: pred (a, b)) at (a, set b): ~fa(p) = ex(~p)
abbrev pub not_fa : RuleTree
not_fa = record { name = codes "not_fa"; vars = (p, MPred (TPair a b)) ∷ []; input = TPair a (TSet b); when = []; left = TermP (PNot (PFa (PMeta p))); right = TermP (PEx (PNot (PMeta p))) }

-- in_ex () at (a, set a): in = ex(eq)
abbrev pub in_ex : RuleTree
in_ex = record { name = codes "in_ex"; vars = []; input = TPair a (TSet a); when = []; left = TermP PMember; right = TermP (PEx PEq) }

-- ex_or (p: pred (a, b), q: pred (a, b)) at (a, set b): ex((p | q)) = (ex(p) | ex(q))
abbrev pub ex_or : RuleTree
ex_or = record { name = codes "ex_or"; vars = (p, MPred (TPair a b)) ∷ (q, MPred (TPair a b)) ∷ []; input = TPair a (TSet b); when = []; left = TermP (PEx (POr (PMeta p) (PMeta q))); right = TermP (POr (PEx (PMeta p)) (PEx (PMeta q))) }

-- fa_and (p: pred (a, b), q: pred (a, b)) at (a, set b): fa((p & q)) = (fa(p) & fa(q))
abbrev pub fa_and : RuleTree
fa_and = record { name = codes "fa_and"; vars = (p, MPred (TPair a b)) ∷ (q, MPred (TPair a b)) ∷ []; input = TPair a (TSet b); when = []; left = TermP (PFa (PAnd (PMeta p) (PMeta q))); right = TermP (PAnd (PFa (PMeta p)) (PFa (PMeta q))) }

-- ex_and_env (p: pred (a, b), q: pred a) at (a, set b): ex((p & (q @ fst))) = (ex(p) & (q @ fst))
abbrev pub ex_and_env : RuleTree
ex_and_env = record { name = codes "ex_and_env"; vars = (p, MPred (TPair a b)) ∷ (q, MPred a) ∷ []; input = TPair a (TSet b); when = []; left = TermP (PEx (PAnd (PMeta p) (PAt (PMeta q) FFst))); right = TermP (PAnd (PEx (PMeta p)) (PAt (PMeta q) FFst)) }

-- ex_iter (p: pred (a, c), q: pred (a, b), g: (a, b) -> c) at (a, set b): (ex(p) @ <fst, iter(q, g)>) = ex((q & (p @ <fst, g>)))
abbrev pub ex_iter : RuleTree
ex_iter = record { name = codes "ex_iter"; vars = (p, MPred (TPair a c)) ∷ (q, MPred (TPair a b)) ∷ (g, MFun (TPair a b) c) ∷ []; input = TPair a (TSet b); when = []; left = TermP (PAt (PEx (PMeta p)) (FPair FFst (FIter (PMeta q) (FMeta g)))); right = TermP (PEx (PAnd (PMeta q) (PAt (PMeta p) (FPair FFst (FMeta g))))) }

-- ex_env (p: pred (c, b), h: a -> c) at (a, set b): (ex(p) @ (h * id)) = ex((p @ (h * id)))
abbrev pub ex_env : RuleTree
ex_env = record { name = codes "ex_env"; vars = (p, MPred (TPair c b)) ∷ (h, MFun a c) ∷ []; input = TPair a (TSet b); when = []; left = TermP (PAt (PEx (PMeta p)) (FTimes (FMeta h) FId)); right = TermP (PEx (PAt (PMeta p) (FTimes (FMeta h) FId))) }

-- fa_env (p: pred (c, b), h: a -> c) at (a, set b): (fa(p) @ (h * id)) = fa((p @ (h * id)))
abbrev pub fa_env : RuleTree
fa_env = record { name = codes "fa_env"; vars = (p, MPred (TPair c b)) ∷ (h, MFun a c) ∷ []; input = TPair a (TSet b); when = []; left = TermP (PAt (PFa (PMeta p)) (FTimes (FMeta h) FId)); right = TermP (PFa (PAt (PMeta p) (FTimes (FMeta h) FId))) }

abbrev pub quantifiers : List RuleTree
quantifiers = not_ex ∷ not_fa ∷ in_ex ∷ ex_or ∷ fa_and ∷ ex_and_env ∷ ex_iter ∷ ex_env ∷ fa_env ∷ []

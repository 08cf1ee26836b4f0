-- Laws of choice.
use Rattle.std.specs.Prelude.{true, false, List, [], ◌∷◌, codes}
use Rattle.kola_term.specs.Terms.{FComp, FIf, FMeta, PAt, PNot, PKP, PMeta, TermF}
use Rattle.kola_term.specs.Typing.{MFun, MPred}
use Rattle.kola_rule.specs.Rules.{RuleTree}
use Rattle.kola_laws.specs.Letters.{f, g, h, p, a, b, c}

-- if_true (f: a -> b, g: a -> b) at a: if(KP(true), f, g) = f
abbrev pub if_true : RuleTree
if_true = record { name = codes "if_true"; vars = (f, MFun a b) ∷ (g, MFun a b) ∷ []; input = a; when = []; left = TermF (FIf (PKP true) (FMeta f) (FMeta g)); right = TermF (FMeta f) }

-- if_false (f: a -> b, g: a -> b) at a: if(KP(false), f, g) = g
abbrev pub if_false : RuleTree
if_false = record { name = codes "if_false"; vars = (f, MFun a b) ∷ (g, MFun a b) ∷ []; input = a; when = []; left = TermF (FIf (PKP false) (FMeta f) (FMeta g)); right = TermF (FMeta g) }

-- if_same (p: pred a, f: a -> b) at a: if(p, f, f) = f
abbrev pub if_same : RuleTree
if_same = record { name = codes "if_same"; vars = (p, MPred a) ∷ (f, MFun a b) ∷ []; input = a; when = []; left = TermF (FIf (PMeta p) (FMeta f) (FMeta f)); right = TermF (FMeta f) }

-- if_not (p: pred a, f: a -> b, g: a -> b) at a: if(~p, f, g) = if(p, g, f)
abbrev pub if_not : RuleTree
if_not = record { name = codes "if_not"; vars = (p, MPred a) ∷ (f, MFun a b) ∷ (g, MFun a b) ∷ []; input = a; when = []; left = TermF (FIf (PNot (PMeta p)) (FMeta f) (FMeta g)); right = TermF (FIf (PMeta p) (FMeta g) (FMeta f)) }

-- if_comp (p: pred b, f: b -> c, g: b -> c, h: a -> b) at a: (if(p, f, g) o h) = if((p @ h), (f o h), (g o h))
abbrev pub if_comp : RuleTree
if_comp = record { name = codes "if_comp"; vars = (p, MPred b) ∷ (f, MFun b c) ∷ (g, MFun b c) ∷ (h, MFun a b) ∷ []; input = a; when = []; left = TermF (FComp (FIf (PMeta p) (FMeta f) (FMeta g)) (FMeta h)); right = TermF (FIf (PAt (PMeta p) (FMeta h)) (FComp (FMeta f) (FMeta h)) (FComp (FMeta g) (FMeta h))) }

abbrev pub choice : List RuleTree
choice = if_true ∷ if_false ∷ if_same ∷ if_not ∷ if_comp ∷ []

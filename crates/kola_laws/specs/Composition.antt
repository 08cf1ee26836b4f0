-- Laws of composition, pairs and constants.
use Rattle.std.specs.Prelude.{List, [], ◌∷◌, codes}
use Rattle.kola_values.specs.Types.{TPair}
use Rattle.kola_term.specs.Terms.{CMeta, FId, FFst, FSnd, FComp, FPair, FTimes, FK, FC, FMeta, TermF}
use Rattle.kola_term.specs.Typing.{MFun, MConst}
use Rattle.kola_rule.specs.Rules.{RuleTree}
use Rattle.kola_laws.specs.Letters.{f, g, h, k, x, a, b, c, d, e}

-- id_left (f: a -> b) at a: (id o f) = f
abbrev pub id_left : RuleTree
id_left = record { name = codes "id_left"; vars = (f, MFun a b) ∷ []; input = a; when = []; left = TermF (FComp FId (FMeta f)); right = TermF (FMeta f) }

-- id_right (f: a -> b) at a: (f o id) = f
abbrev pub id_right : RuleTree
id_right = record { name = codes "id_right"; vars = (f, MFun a b) ∷ []; input = a; when = []; left = TermF (FComp (FMeta f) FId); right = TermF (FMeta f) }

-- assoc (f: c -> d, g: b -> c, h: a -> b) at a: ((f o g) o h) = (f o (g o h))
abbrev pub assoc : RuleTree
assoc = record { name = codes "assoc"; vars = (f, MFun c d) ∷ (g, MFun b c) ∷ (h, MFun a b) ∷ []; input = a; when = []; left = TermF (FComp (FComp (FMeta f) (FMeta g)) (FMeta h)); right = TermF (FComp (FMeta f) (FComp (FMeta g) (FMeta h))) }

-- fst_pair (f: a -> b, g: a -> c) at a: (fst o <f, g>) = f
abbrev pub fst_pair : RuleTree
fst_pair = record { name = codes "fst_pair"; vars = (f, MFun a b) ∷ (g, MFun a c) ∷ []; input = a; when = []; left = TermF (FComp FFst (FPair (FMeta f) (FMeta g))); right = TermF (FMeta f) }

-- snd_pair (f: a -> b, g: a -> c) at a: (snd o <f, g>) = g
abbrev pub snd_pair : RuleTree
snd_pair = record { name = codes "snd_pair"; vars = (f, MFun a b) ∷ (g, MFun a c) ∷ []; input = a; when = []; left = TermF (FComp FSnd (FPair (FMeta f) (FMeta g))); right = TermF (FMeta g) }

-- pair_eta (f: a -> (b, c)) at a: <(fst o f), (snd o f)> = f
abbrev pub pair_eta : RuleTree
pair_eta = record { name = codes "pair_eta"; vars = (f, MFun a (TPair b c)) ∷ []; input = a; when = []; left = TermF (FPair (FComp FFst (FMeta f)) (FComp FSnd (FMeta f))); right = TermF (FMeta f) }

-- pair_id () at (a, b): <fst, snd> = id
abbrev pub pair_id : RuleTree
pair_id = record { name = codes "pair_id"; vars = []; input = TPair a b; when = []; left = TermF (FPair FFst FSnd); right = TermF FId }

-- pair_comp (f: b -> c, g: b -> d, h: a -> b) at a: (<f, g> o h) = <(f o h), (g o h)>
abbrev pub pair_comp : RuleTree
pair_comp = record { name = codes "pair_comp"; vars = (f, MFun b c) ∷ (g, MFun b d) ∷ (h, MFun a b) ∷ []; input = a; when = []; left = TermF (FComp (FPair (FMeta f) (FMeta g)) (FMeta h)); right = TermF (FPair (FComp (FMeta f) (FMeta h)) (FComp (FMeta g) (FMeta h))) }

-- times_def (f: a -> c, g: b -> d) at (a, b): (f * g) = <(f o fst), (g o snd)>
abbrev pub times_def : RuleTree
times_def = record { name = codes "times_def"; vars = (f, MFun a c) ∷ (g, MFun b d) ∷ []; input = TPair a b; when = []; left = TermF (FTimes (FMeta f) (FMeta g)); right = TermF (FPair (FComp (FMeta f) FFst) (FComp (FMeta g) FSnd)) }

-- times_pair (f: b -> d, g: c -> e, h: a -> b, k: a -> c) at a: ((f * g) o <h, k>) = <(f o h), (g o k)>
abbrev pub times_pair : RuleTree
times_pair = record { name = codes "times_pair"; vars = (f, MFun b d) ∷ (g, MFun c e) ∷ (h, MFun a b) ∷ (k, MFun a c) ∷ []; input = a; when = []; left = TermF (FComp (FTimes (FMeta f) (FMeta g)) (FPair (FMeta h) (FMeta k))); right = TermF (FPair (FComp (FMeta f) (FMeta h)) (FComp (FMeta g) (FMeta k))) }

-- fst_times (f: a -> c, g: b -> d) at (a, b): (fst o (f * g)) = (f o fst)
abbrev pub fst_times : RuleTree
fst_times = record { name = codes "fst_times"; vars = (f, MFun a c) ∷ (g, MFun b d) ∷ []; input = TPair a b; when = []; left = TermF (FComp FFst (FTimes (FMeta f) (FMeta g))); right = TermF (FComp (FMeta f) FFst) }

-- snd_times (f: a -> c, g: b -> d) at (a, b): (snd o (f * g)) = (g o snd)
abbrev pub snd_times : RuleTree
snd_times = record { name = codes "snd_times"; vars = (f, MFun a c) ∷ (g, MFun b d) ∷ []; input = TPair a b; when = []; left = TermF (FComp FSnd (FTimes (FMeta f) (FMeta g))); right = TermF (FComp (FMeta g) FSnd) }

-- const_comp (f: a -> b, x: c) at a: (K(x) o f) = K(x)
abbrev pub const_comp : RuleTree
const_comp = record { name = codes "const_comp"; vars = (f, MFun a b) ∷ (x, MConst c) ∷ []; input = a; when = []; left = TermF (FComp (FK (CMeta x)) (FMeta f)); right = TermF (FK (CMeta x)) }

-- curry_def (f: (c, a) -> b, x: c) at a: C(f, x) = (f o <K(x), id>)
abbrev pub curry_def : RuleTree
curry_def = record { name = codes "curry_def"; vars = (f, MFun (TPair c a) b) ∷ (x, MConst c) ∷ []; input = a; when = []; left = TermF (FC (FMeta f) (CMeta x)); right = TermF (FComp (FMeta f) (FPair (FK (CMeta x)) FId)) }

abbrev pub composition : List RuleTree
composition = id_left ∷ id_right ∷ assoc ∷ fst_pair ∷ snd_pair ∷ pair_eta ∷ pair_id ∷ pair_comp ∷ times_def ∷ times_pair ∷ fst_times ∷ snd_times ∷ const_comp ∷ curry_def ∷ []

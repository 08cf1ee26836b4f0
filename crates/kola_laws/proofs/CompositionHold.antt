-- The laws of this group hold: laws of composition, pairs and constants.
use Rattle.std.proofs.Common.{refl, sym}
use Rattle.kola_values.specs.Databases.{Classes}
use Rattle.kola_values.specs.Types.{TPair}
use Rattle.kola_term.specs.Meaning.{den}
use Rattle.kola_match.specs.Holding.{Holds}
use Rattle.kola_values.specs.Sets.{Each}
use Rattle.kola_match.specs.Substitutions.{sub_type}
use Rattle.kola_term.proofs.Sound.{sound}
use Rattle.kola_laws.proofs.Truths.{pair_eta}
use Rattle.kola_laws.specs.Composition as l
use Rattle.kola_laws.specs.Letters as n

pub id_left-holds : (S : Classes) → Holds S l.id_left
id_left-holds S d m s t i v h = refl

pub id_right-holds : (S : Classes) → Holds S l.id_right
id_right-holds S d m s t i v h = refl

pub assoc-holds : (S : Classes) → Holds S l.assoc
assoc-holds S d m s t i v h = refl

pub fst_pair-holds : (S : Classes) → Holds S l.fst_pair
fst_pair-holds S d m s t i v h = refl

pub snd_pair-holds : (S : Classes) → Holds S l.snd_pair
snd_pair-holds S d m s t i v h = refl

pub pair_eta-holds : (S : Classes) → Holds S l.pair_eta
pair_eta-holds S d m s t i v h = sym (pair_eta d (sub_type s.types n.b) (sub_type s.types n.c) (den S d (s.funs n.f) v) (sound S d m (s.funs n.f) (sub_type s.types n.a) (TPair (sub_type s.types n.b) (sub_type s.types n.c)) v t.0 h))

pub pair_id-holds : (S : Classes) → Holds S l.pair_id
pair_id-holds S d m s t i v h = sym (pair_eta d _ _ v h)

pub pair_comp-holds : (S : Classes) → Holds S l.pair_comp
pair_comp-holds S d m s t i v h = refl

pub times_def-holds : (S : Classes) → Holds S l.times_def
times_def-holds S d m s t i v h = refl

pub times_pair-holds : (S : Classes) → Holds S l.times_pair
times_pair-holds S d m s t i v h = refl

pub fst_times-holds : (S : Classes) → Holds S l.fst_times
fst_times-holds S d m s t i v h = refl

pub snd_times-holds : (S : Classes) → Holds S l.snd_times
snd_times-holds S d m s t i v h = refl

pub const_comp-holds : (S : Classes) → Holds S l.const_comp
const_comp-holds S d m s t i v h = refl

pub curry_def-holds : (S : Classes) → Holds S l.curry_def
curry_def-holds S d m s t i v h = refl

pub composition_hold : (S : Classes) → Each (Holds S) l.composition
composition_hold S = (id_left-holds S, (id_right-holds S, (assoc-holds S, (fst_pair-holds S, (snd_pair-holds S, (pair_eta-holds S, (pair_id-holds S, (pair_comp-holds S, (times_def-holds S, (times_pair-holds S, (fst_times-holds S, (snd_times-holds S, (const_comp-holds S, (curry_def-holds S, tt))))))))))))))

-- The laws of this group hold: laws of comparisons.
use Rattle.std.proofs.Common.{refl}
use Rattle.kola_values.specs.Databases.{Classes}
use Rattle.kola_values.proofs.Anys.{same_itself, same_comm, not_le, le_or}
use Rattle.kola_term.specs.Meaning.{left, right}
use Rattle.kola_match.specs.Holding.{Holds}
use Rattle.kola_values.specs.Sets.{Each}
use Rattle.kola_laws.specs.Comparison as l

pub inv_def-holds : (S : Classes) → Holds S l.inv_def
inv_def-holds S d m s t i v h = refl

pub cp_def-holds : (S : Classes) → Holds S l.cp_def
cp_def-holds S d m s t i v h = refl

pub eq_self-holds : (S : Classes) → Holds S l.eq_self
eq_self-holds S d m s t i v h = same_itself _

pub eq_comm-holds : (S : Classes) → Holds S l.eq_comm
eq_comm-holds S d m s t i v h = same_comm _ _

pub not_le-holds : (S : Classes) → Holds S l.not_le
not_le-holds S d m s t i v h = not_le (left v) (right v)

pub le_or-holds : (S : Classes) → Holds S l.le_or
le_or-holds S d m s t i v h = le_or (left v) (right v)

pub comparison_hold : (S : Classes) → Each (Holds S) l.comparison
comparison_hold S = (inv_def-holds S, (cp_def-holds S, (eq_self-holds S, (eq_comm-holds S, (not_le-holds S, (le_or-holds S, tt))))))

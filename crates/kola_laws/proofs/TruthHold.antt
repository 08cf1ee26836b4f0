-- The laws of this group hold: laws of truth.
use Rattle.std.proofs.Common.{refl}
use mathlib.Core.Bool.{or_assoc, or_comm, and_assoc, and_comm, and-or_distrib_right, or-false, and-false, and-true, or-true, and_self, not-not}
use Rattle.kola_values.specs.Databases.{Classes}
use Rattle.kola_match.specs.Holding.{Holds}
use Rattle.kola_values.specs.Sets.{Each}
use Rattle.kola_laws.proofs.Truths.{not_both, not_either}
use Rattle.kola_laws.specs.Truth as l

pub and_true-holds : (S : Classes) → Holds S l.and_true
and_true-holds S d m s t i v h = and-true _

pub and_false-holds : (S : Classes) → Holds S l.and_false
and_false-holds S d m s t i v h = and-false _

pub or_true-holds : (S : Classes) → Holds S l.or_true
or_true-holds S d m s t i v h = or-true _

pub or_false-holds : (S : Classes) → Holds S l.or_false
or_false-holds S d m s t i v h = or-false _

pub and_same-holds : (S : Classes) → Holds S l.and_same
and_same-holds S d m s t i v h = and_self _

pub and_comm-holds : (S : Classes) → Holds S l.and_comm
and_comm-holds S d m s t i v h = search and_comm

pub or_comm-holds : (S : Classes) → Holds S l.or_comm
or_comm-holds S d m s t i v h = search or_comm

pub and_assoc-holds : (S : Classes) → Holds S l.and_assoc
and_assoc-holds S d m s t i v h = search and_assoc

pub or_assoc-holds : (S : Classes) → Holds S l.or_assoc
or_assoc-holds S d m s t i v h = search or_assoc

pub not_not-holds : (S : Classes) → Holds S l.not_not
not_not-holds S d m s t i v h = not-not _

pub not_true-holds : (S : Classes) → Holds S l.not_true
not_true-holds S d m s t i v h = refl

pub not_and-holds : (S : Classes) → Holds S l.not_and
not_and-holds S d m s t i v h = search not_both

pub not_or-holds : (S : Classes) → Holds S l.not_or
not_or-holds S d m s t i v h = search not_either

pub and_or-holds : (S : Classes) → Holds S l.and_or
and_or-holds S d m s t i v h = search and-or_distrib_right

pub truth_hold : (S : Classes) → Each (Holds S) l.truth
truth_hold S = (and_true-holds S, (and_false-holds S, (or_true-holds S, (or_false-holds S, (and_same-holds S, (and_comm-holds S, (or_comm-holds S, (and_assoc-holds S, (or_assoc-holds S, (not_not-holds S, (not_true-holds S, (not_and-holds S, (not_or-holds S, (and_or-holds S, tt))))))))))))))

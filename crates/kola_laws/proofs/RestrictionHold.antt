-- The laws of this group hold: laws of predicates after a function.
use Rattle.std.proofs.Common.{refl}
use Rattle.kola_values.specs.Databases.{Classes}
use Rattle.kola_match.specs.Holding.{Holds}
use Rattle.kola_values.specs.Sets.{Each}
use Rattle.kola_laws.specs.Restriction as l

pub at_id-holds : (S : Classes) → Holds S l.at_id
at_id-holds S d m s t i v h = refl

pub at_at-holds : (S : Classes) → Holds S l.at_at
at_at-holds S d m s t i v h = refl

pub at_and-holds : (S : Classes) → Holds S l.at_and
at_and-holds S d m s t i v h = refl

pub at_or-holds : (S : Classes) → Holds S l.at_or
at_or-holds S d m s t i v h = refl

pub at_not-holds : (S : Classes) → Holds S l.at_not
at_not-holds S d m s t i v h = refl

pub at_true-holds : (S : Classes) → Holds S l.at_true
at_true-holds S d m s t i v h = refl

pub at_false-holds : (S : Classes) → Holds S l.at_false
at_false-holds S d m s t i v h = refl

pub restriction_hold : (S : Classes) → Each (Holds S) l.restriction
restriction_hold S = (at_id-holds S, (at_at-holds S, (at_and-holds S, (at_or-holds S, (at_not-holds S, (at_true-holds S, (at_false-holds S, tt)))))))

-- The laws of this group hold: laws of choice.
use Rattle.std.proofs.Common.{refl}
use Rattle.kola_values.specs.Databases.{Classes}
use Rattle.kola_match.specs.Holding.{Holds}
use Rattle.kola_values.specs.Sets.{Each}
use Rattle.kola_laws.proofs.Truths.{cond_same, cond_not}
use Rattle.kola_laws.specs.Choice as l

pub if_true-holds : (S : Classes) → Holds S l.if_true
if_true-holds S d m s t i v h = refl

pub if_false-holds : (S : Classes) → Holds S l.if_false
if_false-holds S d m s t i v h = refl

pub if_same-holds : (S : Classes) → Holds S l.if_same
if_same-holds S d m s t i v h = cond_same _ _

pub if_not-holds : (S : Classes) → Holds S l.if_not
if_not-holds S d m s t i v h = search cond_not

pub if_comp-holds : (S : Classes) → Holds S l.if_comp
if_comp-holds S d m s t i v h = refl

pub choice_hold : (S : Classes) → Each (Holds S) l.choice
choice_hold S = (if_true-holds S, (if_false-holds S, (if_same-holds S, (if_not-holds S, (if_comp-holds S, tt)))))

-- The laws of this group hold: laws of quantifiers.
use Rattle.std.proofs.Common.{refl, sym}
use mathlib.Core.Bool.{not-not}
use Rattle.kola_values.specs.Databases.{Classes}
use Rattle.kola_values.proofs.Anys.{anys, all_any, any_or, all_and, any_and_right}
use Rattle.kola_match.specs.Holding.{Holds}
use Rattle.kola_values.specs.Sets.{Each}
use Rattle.kola_laws.specs.Quantifiers as l

pub not_ex-holds : (S : Classes) → Holds S l.not_ex
not_ex-holds S d m s t i v h = sym (simp (all_any, not-not))

pub not_fa-holds : (S : Classes) → Holds S l.not_fa
not_fa-holds S d m s t i v h = simp (all_any, not-not)

pub in_ex-holds : (S : Classes) → Holds S l.in_ex
in_ex-holds S d m s t i v h = refl

pub ex_or-holds : (S : Classes) → Holds S l.ex_or
ex_or-holds S d m s t i v h = search any_or

pub fa_and-holds : (S : Classes) → Holds S l.fa_and
fa_and-holds S d m s t i v h = search all_and

pub ex_and_env-holds : (S : Classes) → Holds S l.ex_and_env
ex_and_env-holds S d m s t i v h = search any_and_right

pub ex_iter-holds : (S : Classes) → Holds S l.ex_iter
ex_iter-holds S d m s t i v h = simp anys

pub ex_env-holds : (S : Classes) → Holds S l.ex_env
ex_env-holds S d m s t i v h = refl

pub fa_env-holds : (S : Classes) → Holds S l.fa_env
fa_env-holds S d m s t i v h = refl

pub quantifiers_hold : (S : Classes) → Each (Holds S) l.quantifiers
quantifiers_hold S = (not_ex-holds S, (not_fa-holds S, (in_ex-holds S, (ex_or-holds S, (fa_and-holds S, (ex_and_env-holds S, (ex_iter-holds S, (ex_env-holds S, (fa_env-holds S, tt)))))))))

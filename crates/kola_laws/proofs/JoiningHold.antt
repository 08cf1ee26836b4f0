-- The laws of this group hold: laws of joins.
use Rattle.std.proofs.Common.{sym}
use mathlib.Core.Bool.{and_assoc}
use Rattle.kola_values.specs.Databases.{Classes}
use Rattle.kola_values.proofs.Anys.{set_ext, anys, any_swap, isect_tests, select_first, select_first_after, select_second, select_second_after}
use Rattle.kola_match.specs.Holding.{Holds}
use Rattle.kola_values.specs.Sets.{Each}
use Rattle.kola_laws.specs.Joining as l

pub join_def-holds : (S : Classes) → Holds S l.join_def
join_def-holds S d m s t i v h = set_ext _ _ (λ q. simp anys)

pub join_comm-holds : (S : Classes) → Holds S l.join_comm
join_comm-holds S d m s t i v h = set_ext _ _ (λ q. simp anys (search any_swap))

pub join_left-holds : (S : Classes) → Holds S l.join_left
join_left-holds S d m s t i v h = set_ext _ _ (λ q. simp anys (sym (search select_first)))

pub join_right-holds : (S : Classes) → Holds S l.join_right
join_right-holds S d m s t i v h = set_ext _ _ (λ q. simp anys (sym (search select_second)))

pub join_select_left-holds : (S : Classes) → Holds S l.join_select_left
join_select_left-holds S d m s t i v h = set_ext _ _ (λ q. simp anys (search select_first_after))

pub join_select_right-holds : (S : Classes) → Holds S l.join_select_right
join_select_right-holds S d m s t i v h = set_ext _ _ (λ q. simp anys (search select_second_after))

pub iterate_join-holds : (S : Classes) → Holds S l.iterate_join
iterate_join-holds S d m s t i v h = set_ext _ _ (λ q. simp (anys, and_assoc))

pub join_isect-holds : (S : Classes) → Holds S l.join_isect
join_isect-holds S d m s t i v h = set_ext _ _ (λ q. simp anys (search isect_tests))

pub joining_hold : (S : Classes) → Each (Holds S) l.joining
joining_hold S = (join_def-holds S, (join_comm-holds S, (join_left-holds S, (join_right-holds S, (join_select_left-holds S, (join_select_right-holds S, (iterate_join-holds S, (join_isect-holds S, tt))))))))

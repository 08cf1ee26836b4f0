-- The laws of this group hold: laws of iteration over sets.
use Rattle.std.proofs.Common.{refl, ◌∙◌}
use mathlib.Core.Bool.{and_assoc}
use Rattle.kola_values.specs.Databases.{Classes}
use Rattle.kola_values.proofs.Anys.{set_ext, anys}
use Rattle.kola_values.proofs.Typed.{remake}
use Rattle.kola_match.specs.Holding.{Holds}
use Rattle.kola_values.specs.Sets.{Each}
use Rattle.kola_laws.specs.Iteration as l

pub iterate_id-holds : (S : Classes) → Holds S l.iterate_id
iterate_id-holds S d m s t i v h = set_ext _ _ (λ q. simp anys) ∙ remake d _ v h

pub iterate_iterate-holds : (S : Classes) → Holds S l.iterate_iterate
iterate_iterate-holds S d m s t i v h = set_ext _ _ (λ q. simp (anys, and_assoc))

pub iter_snd-holds : (S : Classes) → Holds S l.iter_snd
iter_snd-holds S d m s t i v h = refl

pub iter_iter-holds : (S : Classes) → Holds S l.iter_iter
iter_iter-holds S d m s t i v h = set_ext _ _ (λ q. simp (anys, and_assoc))

pub iter_env-holds : (S : Classes) → Holds S l.iter_env
iter_env-holds S d m s t i v h = refl

pub iter_const-holds : (S : Classes) → Holds S l.iter_const
iter_const-holds S d m s t i v h = refl

pub flat_iterate-holds : (S : Classes) → Holds S l.flat_iterate
flat_iterate-holds S d m s t i v h = set_ext _ _ (λ q. simp anys)

pub flat_flat-holds : (S : Classes) → Holds S l.flat_flat
flat_flat-holds S d m s t i v h = set_ext _ _ (λ q. simp anys)

pub flat_iter-holds : (S : Classes) → Holds S l.flat_iter
flat_iter-holds S d m s t i v h = set_ext _ _ (λ q. simp anys)

pub iterate_iter-holds : (S : Classes) → Holds S l.iterate_iter
iterate_iter-holds S d m s t i v h = set_ext _ _ (λ q. simp (anys, and_assoc))

pub iteration_hold : (S : Classes) → Each (Holds S) l.iteration
iteration_hold S = (iterate_id-holds S, (iterate_iterate-holds S, (iter_snd-holds S, (iter_iter-holds S, (iter_env-holds S, (iter_const-holds S, (flat_iterate-holds S, (flat_flat-holds S, (flat_iter-holds S, (iterate_iter-holds S, tt))))))))))

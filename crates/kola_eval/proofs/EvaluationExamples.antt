-- Small answers on the limit of visits.
use Rattle.std.proofs.Common.{ℕ, Ok, Err, refl, arith}
use Rattle.kola_eval.specs.Evaluations.{IsWithin}
use Rattle.kola_eval.specs.declared.fault.EvalFault.TheVariants.{VisitLimit, Memory}

-- as many visits as there may be are not too many
as_many_as_may_be : IsWithin {A = ℕ} 7 7 (Ok 0)
as_many_as_may_be = omega arith

-- one more is, and the limit is told
one_too_many : IsWithin {A = ℕ} 7 8 (Err (VisitLimit 7))
one_too_many = (refl, omega arith)

-- the limit is told, not the visits
the_limit_is_told : IsWithin {A = ℕ} 7 8 (Err (VisitLimit 8)) → ⊥
the_limit_is_told h = omega (arith, h.0)

-- it is told of no number of visits that is within
no_limit_within : IsWithin {A = ℕ} 7 7 (Err (VisitLimit 7)) → ⊥
no_limit_within h = omega (arith, h.1)

-- want of memory says nothing of visits
memory_is_free : IsWithin {A = ℕ} 7 8 (Err Memory)
memory_is_free = tt

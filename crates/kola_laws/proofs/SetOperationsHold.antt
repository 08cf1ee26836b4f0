-- The laws of this group hold: laws of union, intersection and difference.
use Rattle.std.proofs.Common.{◌∙◌}
use mathlib.Core.Bool.{or_comm, and-or_distrib_right, or_self}
use Rattle.kola_values.specs.Databases.{Classes}
use Rattle.kola_values.proofs.Anys.{set_ext, anys, any_or, minus_tests, both_tests}
use Rattle.kola_values.proofs.Typed.{remake}
use Rattle.kola_term.specs.Meaning.{den}
use Rattle.kola_values.specs.Sets.{members, any, Each}
use Rattle.kola_match.specs.Holding.{Holds}
use Rattle.kola_values.specs.Types.{TSet}
use Rattle.kola_match.specs.Substitutions.{sub_type}
use Rattle.kola_term.proofs.Sound.{sound}
use Rattle.kola_laws.specs.SetOperations as l
use Rattle.kola_laws.specs.Letters as n

pub iterate_union-holds : (S : Classes) → Holds S l.iterate_union
iterate_union-holds S d m s t i v h = set_ext _ _ (λ q. simp anys)

pub iterate_or-holds : (S : Classes) → Holds S l.iterate_or
iterate_or-holds S d m s t i v h = set_ext _ _ (λ q. simp (anys, and-or_distrib_right, any_or))

pub iterate_and_not-holds : (S : Classes) → Holds S l.iterate_and_not
iterate_and_not-holds S d m s t i v h = set_ext _ _ (λ q. simp anys (search minus_tests))

pub iterate_and-holds : (S : Classes) → Holds S l.iterate_and
iterate_and-holds S d m s t i v h = set_ext _ _ (λ q. simp anys (search both_tests))

pub union_same-holds : (S : Classes) → Holds S l.union_same
union_same-holds S d m s t i v h =
    set_ext _ _ (λ q. simp anys (or_self (any q (members (den S d (s.funs n.f) v)))))
    ∙ remake d (sub_type s.types n.b) (den S d (s.funs n.f) v) (sound S d m (s.funs n.f) (sub_type s.types n.a) (TSet (sub_type s.types n.b)) v t.0 h)

pub union_comm-holds : (S : Classes) → Holds S l.union_comm
union_comm-holds S d m s t i v h = set_ext _ _ (λ q. simp anys (search or_comm))

pub set_operations_hold : (S : Classes) → Each (Holds S) l.set_operations
set_operations_hold S = (iterate_union-holds S, (iterate_or-holds S, (iterate_and_not-holds S, (iterate_and-holds S, (union_same-holds S, (union_comm-holds S, tt))))))

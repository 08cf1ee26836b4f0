-- Counts of a type's nodes that stop at the limit.
use Rattle.std.proofs.Common.{◌≡◌, ℕ, ◌+◌, ◌<◌, nat_le, List, Option, Some, None, is_some, length, get_or, map, drop, ap, arith}
use Rattle.std.proofs.lemmas.Bool.Decides.{nat_tests}
use Rattle.kola_core.specs.declared.name.Name.{Name}
use Rattle.kola_core.proofs.Lists.{left_less}
use Rattle.kola_values.specs.Types.{TypeTree, TSet, TPair, of_type_fields, type_nodes, types_nodes}
use Rattle.kola_values.specs.Views.{type_tree, type_entry}
use Rattle.kola_values.specs.declared.ty.Ty.{Ty}
use Rattle.kola_term.specs.Faults.{small}
use Rattle.kola_term.specs.TypingAnswers.{LeftOf}

pub small_by_count : (o : Option ℕ) (t : TypeTree) → LeftOf o 4096 (type_nodes t) → is_some o ≡ small t
unfolding small
small_by_count (Some k) t h = grind (arith, nat_tests)
small_by_count None t h = grind (arith, nat_tests)

pub small_set_by_count : (o : Option ℕ) (t : TypeTree) → LeftOf o 4095 (type_nodes t) → is_some o ≡ small (TSet t)
unfolding small
small_set_by_count (Some k) t h = grind (arith, nat_tests)
small_set_by_count None t h = grind (arith, nat_tests)

pub small_pair_is : (t u : TypeTree) → nat_le (type_nodes t + type_nodes u) 4095 ≡ small (TPair t u)
unfolding small
small_pair_is t u = grind (arith, nat_tests)

pub small_set_of_pairs_is : (t u : TypeTree) → nat_le (type_nodes t + type_nodes u) 4094 ≡ small (TSet (TPair t u))
unfolding small
small_set_of_pairs_is t u = grind (arith, nat_tests)

pub small_nest_is : (t u : TypeTree) → nat_le (type_nodes t + type_nodes u) 4093 ≡ small (TSet (TPair t (TSet u)))
unfolding small
small_nest_is t u = grind (arith, nat_tests)

-- the nodes of the fields from a place on
pub fields_left : (xs : List (Name × Ty)) (us : List (List ℕ × TypeTree)) (i : ℕ) (x : Name × Ty) → map type_entry xs ≡ us → i < length xs → x ≡ get_or xs i x
    → types_nodes (of_type_fields (drop i us)) ≡ type_nodes (type_tree x.1) + types_nodes (of_type_fields (drop (i + 1) us))
fields_left xs us i x e p h = ap (λ l. types_nodes (of_type_fields l)) (left_less type_entry xs us i x e p h)

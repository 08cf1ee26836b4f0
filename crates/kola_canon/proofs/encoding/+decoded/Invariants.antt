use Rattle.std.proofs.Common.{◌≡◌, ◌+◌, ◌-◌, ◌*◌, ◌≤◌, ◌++◌, length, map, take, drop}
use Rattle.kola_values.specs.Types.{of_type_fields}
use Rattle.kola_values.specs.Values.{fields}
use Rattle.kola_values.specs.Views.{value_tree, type_tree, type_entry}
use Rattle.kola_values.specs.WellFormed.{WellFormedFields}
use Rattle.kola_canon.specs.Encoding.{dec, dec_fields}
use Rattle.kola_values.specs.Models.Weights.{type_weight, types_weight}
use Rattle.kola_canon.proofs.encoding.+decoded.Given as goal

abbrev pub decreases-decoded : goal.decreases-decoded
decreases-decoded l = 2 * type_weight (type_tree l.t.now)

abbrev pub decreases-decoded_fields : goal.decreases-decoded_fields
decreases-decoded_fields l = 2 * types_weight (of_type_fields (map type_entry l.types.now))

abbrev pub decreases-decoded_field : goal.decreases-decoded_field
decreases-decoded_field l = 2 * type_weight (type_tree l.field.now.1) + 1

abbrev pub decreases-decoded_members : goal.decreases-decoded_members
decreases-decoded_members l = 2 * type_weight (type_tree l.t.now) + 1

abbrev pub invariant-decoded_fields-loop-done : goal.invariant-decoded_fields-loop-done
invariant-decoded_fields-loop-done l =
    (l.done ≤ length l.types)
    × (l.fields ++ fields (dec_fields (of_type_fields (drop l.done (map type_entry l.types))) (value_tree l.rest)) ≡ fields (dec_fields (of_type_fields (map type_entry l.types)) (value_tree l.v)))
    × WellFormedFields (dec_fields (of_type_fields (drop l.done (map type_entry l.types))) (value_tree l.rest))

abbrev pub decreases-decoded_fields-loop-done : goal.decreases-decoded_fields-loop-done
decreases-decoded_fields-loop-done l = length l.types - l.done

abbrev pub invariant-decoded_members-loop-member : goal.invariant-decoded_members-loop-member
invariant-decoded_members-loop-member l = map value_tree l.all.items ≡ take l.member-index (map (dec (type_tree l.t)) (map value_tree l.members))

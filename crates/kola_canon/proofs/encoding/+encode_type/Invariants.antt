use Rattle.std.proofs.Common.{◌≡◌, ◌<◌, length, map, drop}
use Rattle.kola_values.specs.Types.{of_type_fields}
use Rattle.kola_values.specs.Views.{type_tree, type_entry}
use Rattle.kola_canon.specs.Encoding.{enc_field_types}
use Rattle.kola_values.specs.Models.Weights.{type_weight, types_weight}
use Rattle.kola_canon.proofs.encoding.+encode_type.Given as goal

abbrev pub decreases-encode_type : goal.decreases-encode_type
decreases-encode_type l = type_weight (type_tree l.t.now)

abbrev pub decreases-encode_field_types : goal.decreases-encode_field_types
decreases-encode_field_types l = types_weight (of_type_fields (map type_entry l.fields.now))

abbrev pub invariant-encode_field_types-loop-left : goal.invariant-encode_field_types-loop-left
invariant-encode_field_types-loop-left l = (l.left < length l.fields) × (type_tree l.all ≡ enc_field_types (of_type_fields (drop l.left (map type_entry l.fields))))

abbrev pub decreases-encode_field_types-loop-left : goal.decreases-encode_field_types-loop-left
decreases-encode_field_types-loop-left l = l.left

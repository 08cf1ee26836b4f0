use Rattle.std.proofs.Common.{◌≡◌, ◌<◌, length, map, take, drop}
use Rattle.kola_values.specs.Values.{of_items, of_fields}
use Rattle.kola_values.specs.Views.{value_tree, value_entry}
use Rattle.kola_canon.specs.Encoding.{enc, enc_fields}
use Rattle.kola_values.specs.Models.Weights.{weight, members_weight, fields_weight}
use Rattle.kola_canon.proofs.encoding.+encoded.Given as goal

abbrev pub decreases-encoded : goal.decreases-encoded
decreases-encoded l = weight (value_tree l.v.now)

abbrev pub decreases-encoded_fields : goal.decreases-encoded_fields
decreases-encoded_fields l = fields_weight (of_fields (map value_entry l.fields.now))

abbrev pub decreases-encoded_members : goal.decreases-encoded_members
decreases-encoded_members l = members_weight (of_items (map value_tree l.members.now))

abbrev pub invariant-encoded_fields-loop-left : goal.invariant-encoded_fields-loop-left
invariant-encoded_fields-loop-left l = (l.left < length l.fields) × (value_tree l.all ≡ enc_fields (of_fields (drop l.left (map value_entry l.fields))))

abbrev pub decreases-encoded_fields-loop-left : goal.decreases-encoded_fields-loop-left
decreases-encoded_fields-loop-left l = l.left

abbrev pub invariant-encoded_members-loop-member : goal.invariant-encoded_members-loop-member
invariant-encoded_members-loop-member l = map value_tree l.all.items ≡ take l.member-index (map enc (map value_tree l.members))

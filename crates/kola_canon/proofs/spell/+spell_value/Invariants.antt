use Rattle.std.proofs.Common.{◌≡◌, ◌+◌, ◌*◌, ◌++◌, map, take}
use Rattle.kola_values.specs.Values.{of_items, of_fields}
use Rattle.kola_values.specs.Views.{value_tree, value_entry}
use Rattle.kola_canon.specs.Spelling.{further_members, further_fields}
use Rattle.kola_values.specs.Models.Weights.{weight, members_weight, fields_weight}
use Rattle.kola_canon.proofs.spell.+spell_value.Given as goal

abbrev pub decreases-spell_value : goal.decreases-spell_value
decreases-spell_value l = 2 * weight (value_tree l.v.now)

abbrev pub decreases-spell_set : goal.decreases-spell_set
decreases-spell_set l = 2 * members_weight (of_items l.set.now) + 1

abbrev pub decreases-spell_members : goal.decreases-spell_members
decreases-spell_members l = 2 * members_weight (of_items (map value_tree l.members.now))

abbrev pub decreases-spell_fields : goal.decreases-spell_fields
decreases-spell_fields l = 2 * fields_weight (of_fields (map value_entry l.fields.now))

abbrev pub invariant-spell_members-loop-member : goal.invariant-spell_members-loop-member
invariant-spell_members-loop-member l = l.out.items ≡ l.initial.out.items ++ further_members (of_items (take l.member-index (map value_tree l.others)))

abbrev pub invariant-spell_fields-loop-label : goal.invariant-spell_fields-loop-label
invariant-spell_fields-loop-label l = l.out.items ≡ l.initial.out.items ++ further_fields (of_fields (take l.label-index (map value_entry l.others)))

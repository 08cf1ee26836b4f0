use Rattle.std.proofs.Common.{◌≡◌, true, take, map}
use Rattle.std.specs.List.{list_all}
use Rattle.kola_values.specs.Values.{of_items, of_fields}
use Rattle.kola_database.specs.MeetsTests.{typed_by}
use Rattle.kola_values.specs.Views.{type_tree, type_entry, value_tree, value_entry}
use Rattle.kola_values.specs.Models.Weights.{weight, members_weight, fields_weight}
use Rattle.kola_database.proofs.MeetingLoops.{IsTypedBelow}
use Rattle.kola_database.proofs.objects.+typed.Given as goal

abbrev pub decreases-is_of_type : goal.decreases-is_of_type
decreases-is_of_type g l = weight (value_tree l.v.now)

abbrev pub decreases-are_of_type : goal.decreases-are_of_type
decreases-are_of_type g l = members_weight (of_items (map value_tree l.members.now))

abbrev pub decreases-are_of_types : goal.decreases-are_of_types
decreases-are_of_types g l = fields_weight (of_fields (map value_entry l.fields.now))

abbrev pub invariant-are_of_type-loop-member : goal.invariant-are_of_type-loop-member
invariant-are_of_type-loop-member g l = list_all (λ v. typed_by (g.H.Holds.there l.objects) (value_tree v) (type_tree l.t)) (take l.member-index l.members) ≡ true

abbrev pub invariant-are_of_types-loop-i : goal.invariant-are_of_types-loop-i
invariant-are_of_types-loop-i g l = IsTypedBelow (g.H.Holds.there l.objects) (map value_entry l.fields) (map type_entry l.types) l.i

use Rattle.std.proofs.Common.{◌≡◌, ◌++◌, map, take}
use Rattle.kola_values.specs.Types.{of_type_fields}
use Rattle.kola_values.specs.Views.{type_tree, type_entry}
use Rattle.kola_canon.specs.Spelling.{further_field_types}
use Rattle.kola_values.specs.Models.Weights.{type_weight, types_weight}
use Rattle.kola_canon.proofs.spell.+spell_type.Given as goal

abbrev pub decreases-spell_type : goal.decreases-spell_type
decreases-spell_type l = type_weight (type_tree l.t.now)

abbrev pub decreases-spell_field_types : goal.decreases-spell_field_types
decreases-spell_field_types l = types_weight (of_type_fields (map type_entry l.fields.now))

abbrev pub invariant-spell_field_types-loop-label : goal.invariant-spell_field_types-loop-label
invariant-spell_field_types-loop-label l = l.out.items ≡ l.initial.out.items ++ further_field_types (of_type_fields (take l.label-index (map type_entry l.others)))

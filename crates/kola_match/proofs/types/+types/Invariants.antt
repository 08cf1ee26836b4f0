use Rattle.std.proofs.Common.{◌≡◌, ◌+◌, ◌*◌, map, take}
use Rattle.kola_values.specs.Types.{of_type_fields}
use Rattle.kola_values.specs.Views.{type_tree}
use Rattle.kola_values.specs.Models.Weights.{type_weight, types_weight}
use Rattle.kola_match.specs.Binds.{substitution_of}
use Rattle.kola_match.specs.SubstViews.{found_binds}
use Rattle.kola_match.proofs.FieldsUnder.{sub_entry}
use Rattle.kola_match.proofs.types.+types.Given as goal

abbrev pub decreases-instantiate_type : goal.decreases-instantiate_type
decreases-instantiate_type l = 2 * type_weight (type_tree l.t.now)

abbrev pub decreases-boxed_type : goal.decreases-boxed_type
decreases-boxed_type l = 2 * type_weight (type_tree l.t.now) + 1

abbrev pub decreases-fields_under : goal.decreases-fields_under
decreases-fields_under l = 2 * types_weight (of_type_fields l.fields.now)

abbrev pub invariant-fields_under-loop-label : goal.invariant-fields_under-loop-label
invariant-fields_under-loop-label l = l.made ≡ map (sub_entry (substitution_of (found_binds l.s)).types) (take l.label-index l.fields)

use Rattle.std.proofs.Common.{◌≡◌, take, map}
use Rattle.kola_values.specs.Types.{of_type_fields}
use Rattle.kola_values.specs.Views.{type_tree, type_entry}
use Rattle.kola_values.specs.Models.Weights.{type_weight, types_weight}
use Rattle.kola_match.specs.Binds.{substitution_of}
use Rattle.kola_match.specs.FoundViews.{binds_of}
use Rattle.kola_match.proofs.GivingLaws.{field_under}
use Rattle.kola_match.proofs.given.+type_under.Given as goal

abbrev pub decreases-type_under : goal.decreases-type_under
decreases-type_under l = type_weight (type_tree l.t.now)

abbrev pub decreases-fields_under : goal.decreases-fields_under
decreases-fields_under l = types_weight (of_type_fields (map type_entry l.fields.now))

abbrev pub invariant-fields_under-loop-label : goal.invariant-fields_under-loop-label
invariant-fields_under-loop-label l = l.under ≡ take l.label-index (map (λ x. field_under (substitution_of (binds_of l.found)) (type_entry x)) l.fields)

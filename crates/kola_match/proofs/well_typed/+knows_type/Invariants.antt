use Rattle.std.proofs.Common.{◌≡◌, drop}
use Rattle.kola_values.specs.Types.{of_type_fields}
use Rattle.kola_values.specs.Views.{type_tree}
use Rattle.kola_values.specs.Models.Weights.{type_weight, types_weight}
use Rattle.kola_schema.specs.Schemas.{class_names}
use Rattle.kola_match.specs.RuleOk.{knows_fields}
use Rattle.kola_match.proofs.well_typed.+knows_type.Given as goal

abbrev pub decreases-knows_type : goal.decreases-knows_type
decreases-knows_type l = type_weight (type_tree l.t.now)

abbrev pub decreases-knows_fields : goal.decreases-knows_fields
decreases-knows_fields l = types_weight (of_type_fields l.fields.now)

-- the fields so far are known
abbrev pub invariant-knows_fields-loop-t : goal.invariant-knows_fields-loop-t
invariant-knows_fields-loop-t l = knows_fields (class_names l.schema) (of_type_fields (drop l.t-index l.fields)) ≡ knows_fields (class_names l.schema) (of_type_fields l.fields)

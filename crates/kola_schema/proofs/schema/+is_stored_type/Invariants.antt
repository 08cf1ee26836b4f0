use Rattle.kola_values.specs.Views.{type_tree}
use Rattle.kola_values.specs.Models.Weights.{type_weight}
use Rattle.kola_schema.proofs.schema.+is_stored_type.Given as goal

abbrev pub decreases-is_stored_type : goal.decreases-is_stored_type
decreases-is_stored_type l = type_weight (type_tree l.t.now)

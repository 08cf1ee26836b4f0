use Rattle.std.proofs.Common.{sym, subst}
use Rattle.kola_values.specs.Views.{value_tree}
use Rattle.kola_values.specs.WellFormed.{WellFormed}
use Rattle.kola_values.proofs.Keeping.{set_well_formed, fields_well_formed}
use Rattle.kola_values.proofs.value.Value.well_formed.Goals as goal

pub returns-in-Struct : goal.returns-in-Struct
returns-in-Struct c = subst (λ v. WellFormed (value_tree v)) (sym c.in-Struct.is) (fields_well_formed c.in-Struct.fields c.well_formed-in-Struct.ensures)

pub returns-in-Set : goal.returns-in-Set
returns-in-Set c = subst (λ v. WellFormed (value_tree v)) (sym c.in-Set.is) (set_well_formed c.in-Set.set c.well_formed-in-Set.ensures.rises c.well_formed-in-Set.ensures.members)

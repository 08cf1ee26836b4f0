use Rattle.std.proofs.Common.{map, refl, subst, arith}
use Rattle.std.proofs.lemmas.List.{take_all, length-map}
use Rattle.kola_values.specs.Sets.{Each}
use Rattle.kola_values.specs.Views.{value_tree}
use Rattle.kola_values.specs.WellFormed.{WellFormed}
use Rattle.kola_values.proofs.Keeping.{well_formed_more}
use Rattle.kola_values.proofs.value.all_well_formed.Goals as goal

pub loop-value-preserved : goal.loop-value-preserved
loop-value-preserved c = well_formed_more c.args.values.now (map value_tree c.args.values.now) c.loop-value.value-index c.value-item.result refl c.loop-value-test.true c.value-item.is c.loop-value.invariant c.well_formed-in-loop-value.ensures

pub returns : goal.returns
returns c = subst (Each WellFormed) (take_all c.loop-value.value-index (map value_tree c.args.values.now) (omega (arith, length-map c.args.values.now value_tree))) c.loop-value.invariant

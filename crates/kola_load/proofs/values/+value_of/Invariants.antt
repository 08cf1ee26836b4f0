use Rattle.std.proofs.Common.{◌≡◌, ◌+◌, ◌*◌, List, map}
use Rattle.kola_load.specs.JsonViews.{view}
use Rattle.kola_values.specs.Values.{ValueTree}
use Rattle.kola_values.specs.Sets.{canon}
use Rattle.kola_values.specs.Views.{type_tree}
use Rattle.kola_values.specs.Models.Weights.{type_weight}
use Rattle.kola_load.specs.Written.{value_of}
use Rattle.kola_load.proofs.ValueLoops.{AreSoFar}
use Rattle.kola_load.proofs.values.+value_of.Given as goal

abbrev pub decreases-value_of : goal.decreases-value_of
decreases-value_of l = 2 * type_weight (type_tree l.t.now)

abbrev pub decreases-set_of : goal.decreases-set_of
decreases-set_of l = 2 * type_weight (type_tree l.t.now) + 1

abbrev pub invariant-set_of-loop-element : goal.invariant-set_of-loop-element
invariant-set_of-loop-element l = (done : List ValueTree) × (l.members ≡ canon done) × AreSoFar (value_of (type_tree l.t)) (map view l.elements) l.element-index done

use Rattle.std.proofs.Common.{◌≡◌, ◌+◌, ◌*◌, not, map, drop}
use Rattle.kola_load.specs.JsonViews.{view}
use Rattle.kola_values.specs.Views.{type_tree}
use Rattle.kola_values.specs.Models.Weights.{type_weight}
use Rattle.kola_load.specs.Ids.{there}
use Rattle.kola_load.specs.Written.{references}
use Rattle.kola_load.proofs.ValueLoops.{first_in}
use Rattle.kola_load.proofs.values.+missing.Given as goal

abbrev pub decreases-missing : goal.decreases-missing
decreases-missing l = 2 * type_weight (type_tree l.t.now)

abbrev pub decreases-missing_among : goal.decreases-missing_among
decreases-missing_among l = 2 * type_weight (type_tree l.t.now) + 1

abbrev pub invariant-missing_among-loop-element : goal.invariant-missing_among-loop-element
invariant-missing_among-loop-element l =
    first_in (λ r. not (there l.ids r)) (λ r. r.1) (references (type_tree l.t)) (map view l.elements) (drop l.element-index (map view l.elements))
    ≡ first_in (λ r. not (there l.ids r)) (λ r. r.1) (references (type_tree l.t)) (map view l.elements) (map view l.elements)

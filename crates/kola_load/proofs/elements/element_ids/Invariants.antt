use Rattle.std.proofs.Common.{◌≡◌, [], map, take, drop}
use Rattle.kola_load.specs.JsonViews.{view}
use Rattle.kola_schema.specs.SchemaViews.{class_tree}
use Rattle.kola_load.specs.Ids.{AreIds}
use Rattle.kola_load.specs.Loading.{first_among, element_fault}
use Rattle.kola_load.proofs.elements.element_ids.Given as goal

abbrev pub invariant-loop-i : goal.invariant-loop-i
invariant-loop-i l =
    AreIds l.ids (take l.i (map view l.elements))
    × (first_among (element_fault (class_tree l.class)) (take l.i (map view l.elements)) (drop l.i (map view l.elements)) ≡ first_among (element_fault (class_tree l.class)) [] (map view l.elements))

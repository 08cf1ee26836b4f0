use Rattle.std.proofs.Common.{◌≡◌, fold, map, drop}
use Rattle.kola_load.specs.SchemaTree.{AttributeAt}
use Rattle.kola_load.specs.FirstMarks.{earlier, unknown_class, unknown_types}
use Rattle.kola_load.specs.SchemaViews.{attribute_view}
use Rattle.kola_load.proofs.schema_names.unknown_types.Given as goal

abbrev pub invariant-loop-attribute : goal.invariant-loop-attribute
invariant-loop-attribute l = fold (λ best (a : AttributeAt). earlier best (unknown_class l.known a.type)) l.first (drop l.attribute-index (map attribute_view l.attributes)) ≡ unknown_types l.known (map attribute_view l.attributes)

use Rattle.std.proofs.Common.{◌≡◌, map, take}
use Rattle.kola_load.specs.declared.schema_tree.AttributeAt.{AttributeAt}
use Rattle.kola_load.proofs.schema_names.attribute_names.Given as goal

abbrev pub invariant-loop-attribute : goal.invariant-loop-attribute
invariant-loop-attribute l = l.names.items ≡ map (λ (x : AttributeAt). x.name) (take l.attribute-index l.class.attributes.items)

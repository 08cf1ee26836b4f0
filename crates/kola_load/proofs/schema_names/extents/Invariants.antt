use Rattle.std.proofs.Common.{◌≡◌, map, take}
use Rattle.kola_load.specs.declared.schema_tree.ClassAt.{ClassAt}
use Rattle.kola_load.proofs.schema_names.extents.Given as goal

abbrev pub invariant-loop-class : goal.invariant-loop-class
invariant-loop-class l = l.names.items ≡ map (λ (x : ClassAt). x.extent) (take l.class-index l.classes)

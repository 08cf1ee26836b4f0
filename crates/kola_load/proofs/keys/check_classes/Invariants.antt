use Rattle.std.proofs.Common.{◌≡◌, map, drop}
use Rattle.kola_database.specs.ObjectViews.{object_tree}
use Rattle.kola_load.specs.KeyViews.{lists_fault}
use Rattle.kola_load.proofs.keys.check_classes.Given as goal

abbrev pub invariant-loop-i : goal.invariant-loop-i
invariant-loop-i l =
    lists_fault (drop l.i l.schema) (drop l.i (map (λ os. map object_tree os.items) l.lists))
    ≡ lists_fault l.schema (map (λ os. map object_tree os.items) l.lists)

use Rattle.std.proofs.Common.{◌≡◌, map, take, drop}
use Rattle.kola_load.specs.JsonViews.{table_view}
use Rattle.kola_database.specs.ObjectViews.{object_tree}
use Rattle.kola_load.specs.Ids.{there}
use Rattle.kola_load.specs.Loading.{first_of, objects_fault}
use Rattle.kola_load.specs.Written.{objects_in}
use Rattle.kola_load.proofs.Taken.{AreAhead}
use Rattle.kola_load.proofs.objects.read_objects.Given as goal

abbrev pub invariant-loop-class : goal.invariant-loop-class
invariant-loop-class l =
    (map (λ os. map object_tree os.items) l.lists.items ≡ map (objects_in (table_view l.fn.given)) (take l.class-index l.schema))
    × (first_of (objects_fault (there l.ids) (table_view l.fn.given)) (drop l.class-index l.schema)
    ≡ first_of (objects_fault (there l.ids) (table_view l.fn.given)) l.schema)
    × AreAhead (take l.class-index l.schema) l.fn.given.entries l.members.entries

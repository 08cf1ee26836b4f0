use Rattle.std.proofs.Common.{◌≡◌, [], map, take, drop}
use Rattle.kola_database.specs.ObjectViews.{object_tree}
use Rattle.kola_load.specs.Loading.{first_among, repeat_fault}
use Rattle.kola_load.proofs.SeenKeys.{IsSeen}
use Rattle.kola_load.proofs.keys.check_key.Given as goal

abbrev pub invariant-loop-object : goal.invariant-loop-object
invariant-loop-object l =
    IsSeen l.key l.seen (take l.object-index (map object_tree l.objects))
    × (first_among (repeat_fault l.class l.place l.key) (take l.object-index (map object_tree l.objects)) (drop l.object-index (map object_tree l.objects))
    ≡ first_among (repeat_fault l.class l.place l.key) [] (map object_tree l.objects))

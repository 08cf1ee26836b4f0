use Rattle.std.proofs.Common.{◌≡◌, map, take, drop}
use Rattle.kola_database.specs.ObjectViews.{object_tree}
use Rattle.kola_load.specs.Loading.{first_among, key_fault, keys_fault}
use Rattle.kola_load.proofs.keys.check_class.Given as goal

abbrev pub invariant-loop-i : goal.invariant-loop-i
invariant-loop-i l =
    first_among (key_fault (map object_tree l.objects) l.class) (take l.i l.class.keys) (drop l.i l.class.keys)
    ≡ keys_fault l.class (map object_tree l.objects)

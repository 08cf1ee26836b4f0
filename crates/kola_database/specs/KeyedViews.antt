-- What a key says of an object that the program holds.
use Rattle.std.specs.Prelude.{List}
use Rattle.kola_values.specs.Values.{ValueTree}
use Rattle.kola_database.specs.KeyedObjects.{keyed}
use Rattle.kola_database.specs.ObjectViews.{object_tree}
use Rattle.kola_database.specs.declared.keyed.Keyed.{Keyed}

abbrev pub keyed_tree : Keyed → List ValueTree
keyed_tree k = keyed (object_tree k.object.now) k.place k.key.now

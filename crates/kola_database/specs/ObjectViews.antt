-- The plain record of an object that the program holds.
use Rattle.std.specs.Borrow.{Bor}
use Rattle.kola_values.specs.Databases.{Object}
use Rattle.kola_database.specs.declared.object.ObjectDef.{ObjectDef}

abbrev pub object_tree : ObjectDef → Object
object_tree o = record { class = o.class; id = o.id; values = o.values }

-- the same behind a reference
abbrev pub object_at : Bor ObjectDef → Object
object_at o = object_tree o.now

-- The plain record of a class that the program holds.
use Rattle.std.specs.Borrow.{Bor}
use Rattle.kola_values.specs.Databases.{Class}
use Rattle.kola_values.specs.Types.{TypeTree}
use Rattle.kola_values.specs.Views.{type_tree}
use Rattle.kola_values.specs.declared.ty.Ty.{Ty}
use Rattle.kola_schema.specs.declared.schema.ClassDef.{ClassDef}

abbrev pub class_tree : ClassDef → Class
class_tree c = record { name = c.name; extent = c.extent; attributes = c.attributes; keys = c.keys }

-- the same behind a reference
abbrev pub class_at : Bor ClassDef → Class
class_at c = class_tree c.now

abbrev pub type_at : Bor Ty → TypeTree
type_at t = type_tree t.now

-- What the program's trees of schemas are.
use Rattle.std.specs.Prelude.{List, map, Vec}
use Rattle.std.specs.declared.alloc.Global.{Global}
use Rattle.kola_base.specs.declared.named.Named as named
pub use Rattle.kola_base.specs.NamedViews.{named_view}
use Rattle.kola_load.specs.declared.schema_tree.TypeAt as type
use Rattle.kola_load.specs.declared.schema_tree.TypeAt.TheVariants as types
use Rattle.kola_load.specs.declared.schema_tree.AttributeAt as attribute
use Rattle.kola_load.specs.declared.schema_tree.ClassAt as class
use Rattle.kola_load.specs.SchemaTree.{Named, TypeAt, AInt, AStr, ABool, ASet, AClass, AttributeAt, ClassAt}

abbrev pub type_view : type.TypeAt → TypeAt
type_view types.Int = AInt
type_view types.Str = AStr
type_view types.Bool = ABool
type_view (type.Set' p t) = ASet (type_view t)
type_view (types.Class n) = AClass (named_view n)

abbrev pub names_view : List named.Named → List Named
names_view ns = map named_view ns

abbrev pub attribute_view : attribute.AttributeAt → AttributeAt
attribute_view a = record { type = type_view a.ty; name = named_view a.name }

abbrev pub key_view : Vec named.Named Global → List Named
key_view k = map named_view k.items

abbrev pub class_view : class.ClassAt → ClassAt
class_view c = record { name = named_view c.name; extent = named_view c.extent; keys = map key_view c.keys.items; attributes = map attribute_view c.attributes.items }

-- The names of the causes for which a schema or a database is refused, as they are printed, without their fields.
use Rattle.std.specs.Prelude.{ℕ, List, codes}
use Rattle.kola_base.specs.CauseNames.{lex_name}
use Rattle.kola_load.specs.declared.schema_fault.SchemaWhy.{SchemaWhy}
use Rattle.kola_load.specs.declared.schema_fault.SchemaWhy.TheVariants.{Lex, Unexpected, TooDeep, NameNotAllowed, TwiceDefined, UnknownClass, UnknownKeyAttribute}
use Rattle.kola_load.specs.declared.fault.DbFault.{DbFault}
use Rattle.kola_load.specs.declared.fault.DbFault.TheVariants as db

abbrev pub schema_name : SchemaWhy → List ℕ
schema_name (Lex why) = lex_name why
schema_name Unexpected = codes "Unexpected"
schema_name TooDeep = codes "TooDeep"
schema_name NameNotAllowed = codes "NameNotAllowed"
schema_name TwiceDefined = codes "TwiceDefined"
schema_name UnknownClass = codes "UnknownClass"
schema_name UnknownKeyAttribute = codes "UnknownKeyAttribute"

abbrev pub db_name : DbFault → List ℕ
db_name db.NotJson = codes "NotJson"
db_name db.NotObject = codes "NotObject"
db_name (db.UnknownExtent a) = codes "UnknownExtent"
db_name (db.NotAnArray a) = codes "NotAnArray"
db_name (db.NotAnObject a b) = codes "NotAnObject"
db_name (db.BadId a b) = codes "BadId"
db_name (db.TwiceId a b) = codes "TwiceId"
db_name (db.UnknownAttribute a b c) = codes "UnknownAttribute"
db_name (db.MissingAttribute a b c) = codes "MissingAttribute"
db_name (db.WrongType a b c) = codes "WrongType"
db_name (db.NoSuchObject a b c d) = codes "NoSuchObject"
db_name (db.KeyRepeats a b c d) = codes "KeyRepeats"
db_name db.Memory = codes "Memory"

-- A schema as it is written, each name with the place where it stands.
use Rattle.std.specs.Prelude.{List}
pub use Rattle.kola_base.specs.Named.{Named}

pub data TypeAt : Type 0 where
  AInt AStr ABool : TypeAt
  ASet : TypeAt → TypeAt
  AClass : Named → TypeAt

pub record AttributeAt : Type 0 where
  pub type : TypeAt
  pub name : Named

pub record ClassAt : Type 0 where
  pub name : Named
  pub extent : Named
  pub keys : List (List Named)
  pub attributes : List AttributeAt

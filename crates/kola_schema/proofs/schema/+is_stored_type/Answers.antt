use Rattle.std.proofs.Common.{rules}
use Rattle.kola_schema.proofs.Schemas.{class_listed}
use Rattle.kola_schema.proofs.schema.+is_stored_type.Goals as goal

pub returns-in-Class : goal.returns-in-Class
returns-in-Class t c = let h = class_listed c.args.classes.now c.in-Class.name in search rules

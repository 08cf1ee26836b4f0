use Rattle.std.proofs.Common.{rules}
use Rattle.kola_schema.proofs.Schemas.{key_seen}
use Rattle.kola_schema.proofs.schema.is_key.Goals as goal

pub returns-then-not-is_empty : goal.returns-then-not-is_empty
returns-then-not-is_empty c = let h = key_seen c.args.entries.now c.args.key.now (search rules) in search rules

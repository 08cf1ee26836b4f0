use Rattle.kola_load.specs.SchemaAccepted.{greatest_nesting}
use Rattle.kola_load.proofs.OneSchema.{answer_only, answer_at}
use Rattle.kola_load.proofs.schema_read.read_schema.Goals as goal

pub returns-clause-only : goal.returns-clause-only
returns-clause-only c S h = answer_only greatest_nesting c.args.text.now c.schema_within.result c.schema_within.ensures.found c.schema_within.ensures.fault S h

pub returns-clause-only_fault : goal.returns-clause-only_fault
returns-clause-only_fault c at w f = answer_at greatest_nesting c.args.text.now c.schema_within.result c.schema_within.ensures.found c.schema_within.ensures.fault at w f

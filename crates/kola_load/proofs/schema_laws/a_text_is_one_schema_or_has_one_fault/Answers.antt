use Rattle.kola_load.specs.SchemaAccepted.{greatest_nesting}
use Rattle.kola_load.proofs.OneSchema.{one_schema, schema_or_fault, one_schema_fault, schema_once}
use Rattle.kola_load.proofs.schema_laws.a_text_is_one_schema_or_has_one_fault.Goals as goal

pub returns-clause-some : goal.returns-clause-some
returns-clause-some c = schema_once greatest_nesting c.args.text.now

pub returns-clause-one_schema : goal.returns-clause-one_schema
returns-clause-one_schema c S T h k = one_schema greatest_nesting c.args.text.now S T h k

pub returns-clause-not_both : goal.returns-clause-not_both
returns-clause-not_both c S at why h k = schema_or_fault greatest_nesting c.args.text.now S at why h k

pub returns-clause-one_fault : goal.returns-clause-one_fault
returns-clause-one_fault c at to why cause h k = one_schema_fault greatest_nesting c.args.text.now at to why cause h k

use Rattle.std.proofs.Common.{rules}
use Rattle.kola_schema.proofs.Schemas.{attribute_of_class}
use Rattle.kola_schema.proofs.schema.Schema.attribute.Goals as goal

pub returns-in_err-by_name : goal.returns-in_err-by_name
returns-in_err-by_name c =
    let k = attribute_of_class c.args.self.now c.args.class.now c.args.a.now in
    search rules

pub returns : goal.returns
returns c =
    let k = attribute_of_class c.args.self.now c.args.class.now c.args.a.now in
    search rules

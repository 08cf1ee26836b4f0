use Rattle.std.proofs.Common.{is_some, ap, ◌∙◌}
use Rattle.kola_schema.specs.SchemaViews.{class_at}
use Rattle.kola_match.proofs.RuleLaws.{some_seen, named_is_listed}
use Rattle.kola_match.proofs.well_typed.has_class.Goals as goal

pub returns : goal.returns
returns c = c.is_some.ensures ∙ (some_seen class_at c.class_named.result ∙ (ap is_some c.class_named.ensures ∙ named_is_listed c.args.schema.now c.args.name.now))

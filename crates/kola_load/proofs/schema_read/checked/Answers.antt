use Rattle.std.proofs.Common.{map, sym, ap, ◌∙◌}
use Rattle.kola_schema.specs.Schemas.{is_schema}
use Rattle.kola_load.specs.SchemaViews.{class_view}
use Rattle.kola_load.proofs.FirstMarkLaws.{found_first, found_none}
use Rattle.kola_load.proofs.PlainLaws.{fine_is_schema}
use Rattle.kola_load.proofs.schema_read.checked.Goals as goal

pub returns-in-Some-clause-fault : goal.returns-in-Some-clause-fault
returns-in-Some-clause-fault c = (c.in-Some.mark.why, c.name_why.ensures, found_first (map class_view c.args.classes.now) c.in-Some.mark (sym c.in_ok-mark.ensures ∙ c.in-Some.is))

pub make-requires : goal.make-requires
make-requires c =
    let cs = map class_view c.args.classes.now in
    ap is_schema c.in_ok-plain.ensures ∙ fine_is_schema cs c.requires (found_none cs (sym c.in_ok-mark.ensures ∙ c.in_default.is))

pub returns-clause-found : goal.returns-clause-found
returns-clause-found c = (c.in_ok-make.ensures ∙ c.in_ok-plain.ensures, found_none (map class_view c.args.classes.now) (sym c.in_ok-mark.ensures ∙ c.in_default.is))

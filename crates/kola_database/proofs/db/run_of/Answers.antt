use Rattle.std.proofs.Common.{◌∙◌, ap, map}
use Rattle.kola_schema.specs.Meets.{object_values}
use Rattle.kola_database.specs.ObjectViews.{object_tree}
use Rattle.kola_database.proofs.Runs.{kept_objects}
use Rattle.kola_database.proofs.db.run_of.Goals as goal

pub returns : goal.returns
returns c =
    ap (λ l. object_values (map object_tree l)) (c.objects_at.ensures ∙ c.range_of-start.ensures) ∙ kept_objects c.args.class.now c.args.objects.now

use Rattle.std.proofs.Common.{◌∙◌, sym, ap}
use Rattle.std.specs.Option.{option_map}
use Rattle.kola_database.specs.MeetsTests.{clash}
use Rattle.kola_schema.specs.SchemaViews.{class_at}
use Rattle.kola_database.specs.ObjectViews.{object_tree}
use Rattle.kola_database.specs.declared.object.ObjectDef.{ObjectDef}
use Rattle.kola_database.proofs.MeetingLoops.{none_passes}
use Rattle.kola_database.proofs.meets.clashes.Goals as goal

pub returns-in-None : goal.returns-in-None
returns-in-None c =
    let e = sym c.class_named.ensures ∙ ap (option_map class_at) c.in-None.is in
    sym (none_passes _ c.args.others.now (λ (p : ObjectDef). ap (λ m. clash m (object_tree c.args.o.now) (object_tree p)) e))

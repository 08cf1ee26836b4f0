use Rattle.std.proofs.Common.{rules, ap, sym, ◌∙◌}
use Rattle.kola_values.specs.Databases.{attribute_of, value_or_unit}
use Rattle.kola_values.specs.Views.{value_tree}
use Rattle.kola_database.proofs.Stored.{attribute_meant}
use Rattle.kola_eval.specs.Lending.{lent_tree}
use Rattle.kola_eval.proofs.Constants.{no_attribute}
use Rattle.kola_eval.proofs.run.Run.attribute.Goals as goal

pub returns-in_default : goal.returns-in_default
returns-in_default c = sym (no_attribute c.args.a.now (lent_tree c.args.v) (search rules) c.args.self.now.db.now.objects)

pub returns-in_default-whole : goal.returns-in_default-whole
returns-in_default-whole c = sym (no_attribute c.args.a.now (lent_tree c.args.v) (search rules) c.args.self.now.db.now.objects)

pub returns-in-Some : goal.returns-in-Some
returns-in-Some c =
    let d = c.args.self.now.db.now.objects in
    ap value_or_unit c.in-Some.ensures
    ∙ sym (attribute_meant d c.args.a.now c.in-Obj.class c.in-Obj.id)
    ∙ sym (ap (attribute_of c.args.a.now d) (ap lent_tree c.in-Whole.is ∙ ap value_tree c.in-Obj.is))

pub returns-in-None : goal.returns-in-None
returns-in-None c =
    let d = c.args.self.now.db.now.objects in
    ap value_or_unit c.in-None.ensures
    ∙ sym (attribute_meant d c.args.a.now c.in-Obj.class c.in-Obj.id)
    ∙ sym (ap (attribute_of c.args.a.now d) (ap lent_tree c.in-Whole.is ∙ ap value_tree c.in-Obj.is))

use Rattle.std.proofs.Common.{◌++◌, ◌∷◌, [], map, ap, ◌∙◌, sym, refl}
use Rattle.kola_core.specs.NameLists.{is_listed, with_name}
use Rattle.kola_core.proofs.Lists.{taken_more}
use Rattle.kola_core.proofs.NameLists.{with_new}
use Rattle.kola_schema.proofs.Places.{fresh}
use Rattle.kola_schema.proofs.schema.class_table.Goals as goal

pub loop-class-preserved : goal.loop-class-preserved
loop-class-preserved c =
    let item = c.class-item.result in
    let names = c.loop-class.names in
    let new = ap (is_listed item.name) c.loop-class.invariant ∙ fresh (λ c. c.name) c.args.classes.now c.loop-class.class-index item c.loop-class-test.true c.class-item.is c.requires in
    c.in_ok-add.ensures.added
    ∙ ap (with_name names) c.as_text.ensures.text
    ∙ with_new names item.name new
    ∙ ap (λ l. l ++ item.name ∷ []) c.loop-class.invariant
    ∙ sym (taken_more (λ c. c.name) c.args.classes.now (map (λ c. c.name) c.args.classes.now) c.loop-class.class-index item refl c.loop-class-test.true c.class-item.is)

use Rattle.std.proofs.Common.{◌++◌, ◌∷◌, [], map, ap, ◌∙◌, sym, refl}
use Rattle.kola_core.specs.NameLists.{is_listed, with_name}
use Rattle.kola_core.proofs.Lists.{taken_more}
use Rattle.kola_core.proofs.NameLists.{with_new}
use Rattle.kola_schema.proofs.Places.{fresh}
use Rattle.kola_database.proofs.db.table_of.Goals as goal

pub loop-extent-preserved : goal.loop-extent-preserved
loop-extent-preserved c =
    let item = c.extent-item.result in
    let names = c.loop-extent.names in
    let new = ap (is_listed item.name) c.loop-extent.invariant ∙ fresh (λ x. x.name) c.args.extents.now c.loop-extent.extent-index item c.loop-extent-test.true c.extent-item.is c.requires in
    c.in_ok-add.ensures.added
    ∙ ap (with_name names) c.as_text.ensures.text
    ∙ with_new names item.name new
    ∙ ap (λ l. l ++ item.name ∷ []) c.loop-extent.invariant
    ∙ sym (taken_more (λ x. x.name) c.args.extents.now (map (λ x. x.name) c.args.extents.now) c.loop-extent.extent-index item refl c.loop-extent-test.true c.extent-item.is)

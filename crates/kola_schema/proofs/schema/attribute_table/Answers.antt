use Rattle.std.proofs.Common.{◌++◌, ◌∷◌, [], map, ap, ◌∙◌, sym, refl}
use Rattle.kola_core.specs.NameLists.{is_listed, with_name}
use Rattle.kola_core.proofs.Lists.{taken_more}
use Rattle.kola_core.proofs.NameLists.{with_new}
use Rattle.kola_schema.proofs.Places.{fresh}
use Rattle.kola_schema.proofs.schema.attribute_table.Goals as goal

pub loop-entry-preserved : goal.loop-entry-preserved
loop-entry-preserved c =
    let item = c.entry-item.result in
    let names = c.loop-entry.names in
    let new = ap (is_listed item.0) c.loop-entry.invariant ∙ fresh (λ e. e.0) c.args.entries.now c.loop-entry.entry-index item c.loop-entry-test.true c.entry-item.is c.requires in
    c.in_ok-add.ensures.added
    ∙ ap (with_name names) c.as_text.ensures.text
    ∙ with_new names item.0 new
    ∙ ap (λ l. l ++ item.0 ∷ []) c.loop-entry.invariant
    ∙ sym (taken_more (λ e. e.0) c.args.entries.now (map (λ e. e.0) c.args.entries.now) c.loop-entry.entry-index item refl c.loop-entry-test.true c.entry-item.is)

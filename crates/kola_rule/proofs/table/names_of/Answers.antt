use Rattle.std.proofs.Common.{◌++◌, ◌∷◌, [], map, ap, ◌∙◌, sym, refl}
use Rattle.kola_core.specs.NameLists.{is_listed, with_name}
use Rattle.kola_core.proofs.Lists.{taken_more}
use Rattle.kola_core.proofs.NameLists.{with_new}
use Rattle.kola_schema.proofs.Places.{fresh}
use Rattle.kola_rule.proofs.table.names_of.Goals as goal

pub loop-rule-preserved : goal.loop-rule-preserved
loop-rule-preserved c =
    let item = c.rule-item.result in
    let names = c.loop-rule.names in
    let new = ap (is_listed item.name) c.loop-rule.invariant ∙ fresh (λ r. r.name) c.args.rules.now c.loop-rule.rule-index item c.loop-rule-test.true c.rule-item.is c.requires in
    c.in_ok-add.ensures.added
    ∙ ap (with_name names) c.as_text.ensures.text
    ∙ with_new names item.name new
    ∙ ap (λ l. l ++ item.name ∷ []) c.loop-rule.invariant
    ∙ sym (taken_more (λ r. r.name) c.args.rules.now (map (λ r. r.name) c.args.rules.now) c.loop-rule.rule-index item refl c.loop-rule-test.true c.rule-item.is)

use Rattle.std.proofs.Common.{◌≡◌, true, false, ◌++◌, ◌∷◌, [], map, take, length, ap, ◌∙◌, sym, subst, refl, arith}
use Rattle.std.proofs.lemmas.List.{take_all, length-map}
use Rattle.kola_core.specs.NameLists.{is_listed, with_name}
use Rattle.kola_core.proofs.Lists.{taken_more}
use Rattle.kola_core.proofs.NameLists.{with_new}
use Rattle.kola_schema.specs.Schemas.{are_distinct}
use Rattle.kola_rule.specs.Tables.{rule_names}
use Rattle.kola_rule.proofs.Names.{not_true, not_false, repeated, distinct_so_far}
use Rattle.kola_rule.proofs.table.names_are_distinct.Goals as goal

pub returns-then-not-branch : goal.returns-then-not-branch
returns-then-not-branch c =
    let item = c.rule-item.result in
    let names = c.loop-rule.names in
    let told = not_false (is_listed c.as_text.result.now names) (sym c.in_ok-add.ensures.new ∙ c.if-not-branch.true) in
    let listed = ap (is_listed item.name) (sym c.loop-rule.invariant.0) ∙ ap (λ t. is_listed t names) (sym c.as_text.ensures.text) ∙ told in
    repeated c.args.rules.now c.loop-rule.rule-index item c.loop-rule-test.true c.rule-item.is listed

pub loop-rule-preserved : goal.loop-rule-preserved
loop-rule-preserved c =
    let item = c.rule-item.result in
    let names = c.loop-rule.names in
    let told = not_true (is_listed c.as_text.result.now names) (sym c.in_ok-add.ensures.new ∙ c.if-not-branch.false) in
    let new = ap (λ t. is_listed t names) (sym c.as_text.ensures.text) ∙ told in (
      c.in_ok-add.ensures.added
          ∙ ap (with_name names) c.as_text.ensures.text
          ∙ with_new names item.name new
          ∙ ap (λ l. l ++ item.name ∷ []) c.loop-rule.invariant.0
          ∙ sym (taken_more (λ r. r.name) c.args.rules.now (rule_names c.args.rules.now) c.loop-rule.rule-index item refl c.loop-rule-test.true c.rule-item.is),
      distinct_so_far c.args.rules.now c.loop-rule.rule-index item c.loop-rule-test.true c.rule-item.is c.loop-rule.invariant.1 (ap (is_listed item.name) (sym c.loop-rule.invariant.0) ∙ new),
    )

pub returns : goal.returns
returns c =
    let ns = rule_names c.args.rules.now in
    let k = length-map c.args.rules.now (λ r. r.name) in
    sym (subst (λ l. are_distinct l ≡ true) (take_all c.loop-rule.rule-index ns (omega (arith, k, c.loop-rule-test.false))) c.loop-rule.invariant.1)

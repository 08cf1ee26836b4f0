use Rattle.std.proofs.Common.{sym, ap, ◌∙◌, slice_get, option_map, option_and_then}
use Rattle.kola_rule.specs.RuleViews.{rule_tree}
use Rattle.kola_proof.proofs.Tables.{named_at_place, seen_rule}
use Rattle.kola_proof.proofs.table.rule_named.Goals as goal

pub returns-in_default : goal.returns-in_default
returns-in_default c =
    let rs = c.args.rules.now in
    ap (λ o. option_map rule_tree (option_and_then (λ i. slice_get rs i) o)) (sym c.in_default.is ∙ c.find.ensures.place) ∙ named_at_place c.args.name.now rs

pub returns : goal.returns
returns c =
    let rs = c.args.rules.now in
    seen_rule c.get.result ∙ (ap (option_map rule_tree) c.get.ensures
    ∙ (ap (λ o. option_map rule_tree (option_and_then (λ i. slice_get rs i) o)) (sym c.in-Some.is ∙ c.find.ensures.place) ∙ named_at_place c.args.name.now rs))

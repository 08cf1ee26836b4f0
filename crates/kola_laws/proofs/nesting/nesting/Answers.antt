use Rattle.std.proofs.Common.{map, sym}
use Rattle.std.proofs.lemmas.List.{append-nil}
use Rattle.kola_rule.specs.RuleViews.{rule_tree}
use Rattle.kola_laws.proofs.nesting.nesting.Goals as goal

pub returns : goal.returns
returns c =
    let before = map rule_tree c.args.rules.now.items in
    let e1 = c.in_ok-add.ensures before _ _ c.nest_def.ensures (sym (append-nil before)) in
    let e2 = c.in_ok-add-2.ensures before _ _ c.unnest_def.ensures e1 in
    let e3 = c.in_ok-add-3.ensures before _ _ c.nest_join.ensures e2 in
    let e4 = c.in_ok-add-4.ensures before _ _ c.nest_unnest.ensures e3 in
    c.in_ok-add-5.ensures before _ _ c.nest_const.ensures e4

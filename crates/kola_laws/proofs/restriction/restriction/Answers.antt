use Rattle.std.proofs.Common.{map, sym}
use Rattle.std.proofs.lemmas.List.{append-nil}
use Rattle.kola_rule.specs.RuleViews.{rule_tree}
use Rattle.kola_laws.proofs.restriction.restriction.Goals as goal

pub returns : goal.returns
returns c =
    let before = map rule_tree c.args.rules.now.items in
    let e1 = c.in_ok-add.ensures before _ _ c.at_id.ensures (sym (append-nil before)) in
    let e2 = c.in_ok-add-2.ensures before _ _ c.at_at.ensures e1 in
    let e3 = c.in_ok-add-3.ensures before _ _ c.at_and.ensures e2 in
    let e4 = c.in_ok-add-4.ensures before _ _ c.at_or.ensures e3 in
    let e5 = c.in_ok-add-5.ensures before _ _ c.at_not.ensures e4 in
    let e6 = c.in_ok-add-6.ensures before _ _ c.at_true.ensures e5 in
    c.in_ok-add-7.ensures before _ _ c.at_false.ensures e6

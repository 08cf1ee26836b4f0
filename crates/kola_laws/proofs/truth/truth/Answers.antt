use Rattle.std.proofs.Common.{map, sym}
use Rattle.std.proofs.lemmas.List.{append-nil}
use Rattle.kola_rule.specs.RuleViews.{rule_tree}
use Rattle.kola_laws.proofs.truth.truth.Goals as goal

pub returns : goal.returns
returns c =
    let before = map rule_tree c.args.rules.now.items in
    let e1 = c.in_ok-add.ensures before _ _ c.and_true.ensures (sym (append-nil before)) in
    let e2 = c.in_ok-add-2.ensures before _ _ c.and_false.ensures e1 in
    let e3 = c.in_ok-add-3.ensures before _ _ c.or_true.ensures e2 in
    let e4 = c.in_ok-add-4.ensures before _ _ c.or_false.ensures e3 in
    let e5 = c.in_ok-add-5.ensures before _ _ c.and_same.ensures e4 in
    let e6 = c.in_ok-add-6.ensures before _ _ c.and_comm.ensures e5 in
    let e7 = c.in_ok-add-7.ensures before _ _ c.or_comm.ensures e6 in
    let e8 = c.in_ok-add-8.ensures before _ _ c.and_assoc.ensures e7 in
    let e9 = c.in_ok-add-9.ensures before _ _ c.or_assoc.ensures e8 in
    let e10 = c.in_ok-add-10.ensures before _ _ c.not_not.ensures e9 in
    let e11 = c.in_ok-add-11.ensures before _ _ c.not_true.ensures e10 in
    let e12 = c.in_ok-add-12.ensures before _ _ c.not_and.ensures e11 in
    let e13 = c.in_ok-add-13.ensures before _ _ c.not_or.ensures e12 in
    c.in_ok-add-14.ensures before _ _ c.and_or.ensures e13

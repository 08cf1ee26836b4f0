use Rattle.std.proofs.Common.{map, sym}
use Rattle.std.proofs.lemmas.List.{append-nil}
use Rattle.kola_rule.specs.RuleViews.{rule_tree}
use Rattle.kola_laws.proofs.quantifiers.quantifiers.Goals as goal

pub returns : goal.returns
returns c =
    let before = map rule_tree c.args.rules.now.items in
    let e1 = c.in_ok-add.ensures before _ _ c.not_ex.ensures (sym (append-nil before)) in
    let e2 = c.in_ok-add-2.ensures before _ _ c.not_fa.ensures e1 in
    let e3 = c.in_ok-add-3.ensures before _ _ c.in_ex.ensures e2 in
    let e4 = c.in_ok-add-4.ensures before _ _ c.ex_or.ensures e3 in
    let e5 = c.in_ok-add-5.ensures before _ _ c.fa_and.ensures e4 in
    let e6 = c.in_ok-add-6.ensures before _ _ c.ex_and_env.ensures e5 in
    let e7 = c.in_ok-add-7.ensures before _ _ c.ex_iter.ensures e6 in
    let e8 = c.in_ok-add-8.ensures before _ _ c.ex_env.ensures e7 in
    c.in_ok-add-9.ensures before _ _ c.fa_env.ensures e8

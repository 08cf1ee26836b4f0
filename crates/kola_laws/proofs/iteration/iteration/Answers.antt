use Rattle.std.proofs.Common.{map, sym}
use Rattle.std.proofs.lemmas.List.{append-nil}
use Rattle.kola_rule.specs.RuleViews.{rule_tree}
use Rattle.kola_laws.proofs.iteration.iteration.Goals as goal

pub returns : goal.returns
returns c =
    let before = map rule_tree c.args.rules.now.items in
    let e1 = c.in_ok-add.ensures before _ _ c.iterate_id.ensures (sym (append-nil before)) in
    let e2 = c.in_ok-add-2.ensures before _ _ c.iterate_iterate.ensures e1 in
    let e3 = c.in_ok-add-3.ensures before _ _ c.iter_snd.ensures e2 in
    let e4 = c.in_ok-add-4.ensures before _ _ c.iter_iter.ensures e3 in
    let e5 = c.in_ok-add-5.ensures before _ _ c.iter_env.ensures e4 in
    let e6 = c.in_ok-add-6.ensures before _ _ c.iter_const.ensures e5 in
    let e7 = c.in_ok-add-7.ensures before _ _ c.flat_iterate.ensures e6 in
    let e8 = c.in_ok-add-8.ensures before _ _ c.flat_flat.ensures e7 in
    let e9 = c.in_ok-add-9.ensures before _ _ c.flat_iter.ensures e8 in
    c.in_ok-add-10.ensures before _ _ c.iterate_iter.ensures e9

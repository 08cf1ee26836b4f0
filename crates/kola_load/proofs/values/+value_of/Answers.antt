use Rattle.std.proofs.Common.{◌≡◌, ◌++◌, ◌∷◌, [], IfOk, Some, map, option_map, sym, ap, subst, ◌∙◌, arith}
use Rattle.std.proofs.lemmas.List.{length-map}
use Rattle.kola_load.specs.JsonViews.{view, items_view}
use Rattle.serde_json.specs.Find.{as_array}
use Rattle.kola_values.specs.Sets.{canon, set_of}
use Rattle.kola_values.specs.Types.{TSet}
use Rattle.kola_values.specs.Values.{VSet, of_items}
use Rattle.kola_values.specs.Views.{type_tree, value_tree}
use Rattle.kola_load.specs.Written.{value_of}
use Rattle.kola_load.proofs.JsonParts.{set_value}
use Rattle.kola_load.proofs.ValueLoops.{none_written, one_written, all_written, gathered_more}
use Rattle.kola_load.proofs.Walks.{seen_at}
use Rattle.kola_load.proofs.values.+value_of.Goals as goal

pub set_of-returns-in-None : goal.set_of-returns-in-None
set_of-returns-in-None t c =
    let es = c.args.elements.now in
    let p = seen_at view es c.loop-element.element-index c.element-item.result c.loop-element-test.true c.element-item.is in
    let so_far = c.loop-element.invariant in
    ap (option_map set_of) (sym (none_written (value_of (type_tree c.args.t.now)) (map view es) c.loop-element.element-index (view c.element-item.result) p.0 p.1 so_far.0 so_far.2 (sym c.in_ok-member.ensures ∙ ap (option_map value_tree) c.in-None.is)))

pub set_of-loop-element-preserved : goal.set_of-loop-element-preserved
set_of-loop-element-preserved t c =
    let es = c.args.elements.now in
    let p = seen_at view es c.loop-element.element-index c.element-item.result c.loop-element-test.true c.element-item.is in
    let so_far = c.loop-element.invariant in
    let v = value_tree c.in-Some.member in (
      so_far.0 ++ v ∷ [],
      c.in_ok-members-in-Some.ensures ∙ ap (λ vs. canon (vs ++ v ∷ [])) so_far.1 ∙ gathered_more so_far.0 v,
      one_written (value_of (type_tree c.args.t.now)) (map view es) c.loop-element.element-index (view c.element-item.result) p.0 p.1 so_far.0 so_far.2 v (sym c.in_ok-member.ensures ∙ ap (option_map value_tree) c.in-Some.is),
    )

pub set_of-returns : goal.set_of-returns
unfolding set_of
set_of-returns t c =
    let es = c.args.elements.now in
    let so_far = c.loop-element.invariant in
    ap (λ l. Some (VSet (of_items l))) (c.in_ok-set.ensures ∙ so_far.1) ∙ ap (option_map set_of) (sym (all_written (value_of (type_tree c.args.t.now)) (map view es) c.loop-element.element-index so_far.0 so_far.2 (let l = length-map es view in omega arith)))

pub value_of-returns-in-Some-array_of : goal.value_of-returns-in-Some-array_of
value_of-returns-in-Some-array_of t c =
    let vs = c.deref.result.now in
    let d = view c.args.value.now in
    let is : as_array d ≡ Some (items_view vs) = sym c.in-Some-array_of.ensures ∙ ap (λ l. Some (items_view l)) (sym c.deref.ensures.value) in
    let e = set_value (type_tree c.get.result.now) d vs is ∙ ap (λ u. value_of u d) (ap TSet c.get.ensures ∙ sym (ap type_tree c.in-Set.is)) in
    subst (λ r. IfOk c.set_of.result (λ o. option_map value_tree o ≡ r)) e c.set_of.ensures

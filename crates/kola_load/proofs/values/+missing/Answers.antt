use Rattle.std.proofs.Common.{◌≡◌, Some, not, map, option_map, sym, ap, ◌∙◌}
use Rattle.std.specs.List.{find}
use Rattle.kola_load.specs.JsonViews.{view, items_view}
use Rattle.serde_json.specs.Find.{as_array}
use Rattle.kola_values.specs.Types.{TSet}
use Rattle.kola_values.specs.Views.{type_tree}
use Rattle.kola_load.specs.Ids.{there}
use Rattle.kola_load.specs.Written.{references}
use Rattle.kola_load.proofs.JsonParts.{set_references}
use Rattle.kola_load.proofs.ValueLoops.{not_here, found_here}
use Rattle.kola_load.proofs.Walks.{seen_at}
use Rattle.kola_load.proofs.values.+missing.Goals as goal

pub missing-returns-in_ok-array_of-in-Set : goal.missing-returns-in_ok-array_of-in-Set
missing-returns-in_ok-array_of-in-Set t c =
    let vs = c.deref.result.now in
    let d = view c.args.value.now in
    let is : as_array d ≡ Some (items_view vs) = sym c.in_ok-array_of-in-Set.ensures ∙ ap (λ l. Some (items_view l)) (sym c.deref.ensures.value) in
    let e = set_references (type_tree c.get.result.now) d vs is ∙ ap (λ u. references u d) (ap TSet c.get.ensures ∙ sym (ap type_tree c.in-Set.is)) in
    c.missing_among.ensures ∙ ap (λ rs. option_map (λ r. r.1) (find (λ r. not (there c.args.ids.now r)) rs)) e

pub missing_among-returns-in-Some : goal.missing_among-returns-in-Some
missing_among-returns-in-Some t c =
    let es = c.args.elements.now in
    let p = seen_at view es c.loop-element.element-index c.element-item.result c.loop-element-test.true c.element-item.is in
    found_here (λ r. not (there c.args.ids.now r)) (λ r. r.1) (references (type_tree c.args.t.now)) (map view es) c.loop-element.element-index (view c.element-item.result) p.0 p.1 c.loop-element.invariant c.in-Some.id c.in-Some.ensures

pub missing_among-loop-element-preserved : goal.missing_among-loop-element-preserved
missing_among-loop-element-preserved t c =
    let es = c.args.elements.now in
    let p = seen_at view es c.loop-element.element-index c.element-item.result c.loop-element-test.true c.element-item.is in
    not_here (λ r. not (there c.args.ids.now r)) (λ r. r.1) (references (type_tree c.args.t.now)) (map view es) c.loop-element.element-index (view c.element-item.result) p.0 p.1 c.loop-element.invariant c.in_default.ensures

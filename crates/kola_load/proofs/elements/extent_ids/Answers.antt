use Rattle.std.proofs.Common.{◌≡◌, Some, sym, ap, subst, ◌∙◌}
use Rattle.kola_load.specs.JsonViews.{view, items_view, table_view}
use Rattle.serde_json.specs.Find.{get, as_array}
use Rattle.kola_load.specs.Ids.{AreIds}
use Rattle.kola_schema.specs.SchemaViews.{class_tree}
use Rattle.kola_load.proofs.JsonParts.{extent_seen, extent_fault_seen}
use Rattle.kola_load.proofs.Answering.{finds_for}
use Rattle.kola_load.proofs.elements.extent_ids.Goals as goal

pub returns : goal.returns
returns c =
    let j = table_view c.args.members.now in
    let k = class_tree c.args.class.now in
    let m = view c.in-Some.member.now in
    let vs = c.deref.result.now in
    let at : get k.extent j ≡ Some m = ap (λ n. get n j) (sym c.as_text.ensures.text) ∙ sym c.in-Some.ensures in
    let is : as_array m ≡ Some (items_view vs) = sym c.in-Some-array_of.ensures ∙ ap (λ l. Some (items_view l)) (sym c.deref.ensures.value) in
    finds_for _ _ _ _ (sym (extent_fault_seen j k m vs at is)) (λ s. subst (AreIds s) (sym (extent_seen j k m vs at is))) c.element_ids.result c.element_ids.ensures

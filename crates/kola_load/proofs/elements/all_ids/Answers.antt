use Rattle.std.proofs.Common.{ap, sym, subst, cond, nat_cmp, ◌∙◌}
use Rattle.std.specs.BTreeSet.{contains}
use Rattle.std.specs.Str.{bytes_eq}
use Rattle.kola_values.specs.Databases.{Class}
use Rattle.kola_load.specs.JsonViews.{table_view}
use Rattle.kola_values.proofs.SameTypes.{both_true}
use Rattle.kola_load.specs.Ids.{AreIds, there}
use Rattle.kola_load.specs.Loading.{extent_fault}
use Rattle.kola_load.specs.Written.{extent_of}
use Rattle.kola_load.proofs.Answering.{handed_on}
use Rattle.kola_load.proofs.IdTables.{class_more}
use Rattle.kola_load.proofs.Walks.{map_itself, at_place, of_next, of_found}
use Rattle.kola_load.proofs.elements.all_ids.Goals as goal

pub returns-in_err-ids : goal.returns-in_err-ids
returns-in_err-ids c =
    let S = c.args.schema.now in
    let j = table_view c.args.members.now in
    let p = at_place c.classes-class-items.result.now S c.loop-class.class-index c.class-item.result c.classes-class-items.ensures c.loop-class-test.true c.class-item.is in
    handed_on _ _ c.from_residual.result _ c.from_residual.ensures.1
    (λ n. of_found (λ k. k) S S (map_itself S) c.loop-class.class-index c.class-item.result p.0 p.1 (extent_fault j) _ c.loop-class.invariant.1 _ (ap (extent_fault j) (sym c.get-class.ensures) ∙ c.in_err-ids.ensures n))

pub loop-class-preserved : goal.loop-class-preserved
loop-class-preserved c =
    let S = c.args.schema.now in
    let j = table_view c.args.members.now in
    let p = at_place c.classes-class-items.result.now S c.loop-class.class-index c.class-item.result c.classes-class-items.ensures c.loop-class-test.true c.class-item.is in (
      class_more S j c.loop-class.class-index c.class-item.result p.0 p.1 (both_true _ _ c.well_formed-2.ensures).0 c.loop-class.table c.insert.new.self c.in_ok-ids.ids c.loop-class.invariant.0 (subst (λ k. AreIds c.in_ok-ids.ids (extent_of j k)) c.get-class.ensures c.in_ok-ids.ensures.1)
          (λ r. c.in_ok-insert.ensures r ∙ ap (λ (k : Class). cond (bytes_eq k.name r.0) (contains nat_cmp c.in_ok-ids.ids r.1) (there c.loop-class.table r)) c.get-class.ensures),
      of_next (λ k. k) S S (map_itself S) c.loop-class.class-index c.class-item.result p.0 p.1 (extent_fault j) _ c.loop-class.invariant.1 (ap (extent_fault j) (sym c.get-class.ensures) ∙ c.in_ok-ids.ensures.0),
    )

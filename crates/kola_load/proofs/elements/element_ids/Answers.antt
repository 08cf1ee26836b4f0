use Rattle.std.proofs.Common.{◌++◌, ◌∷◌, [], map, sym, ap, ◌∙◌, refl, subst}
use Rattle.std.proofs.lemmas.List.{take-map}
use Rattle.kola_load.specs.JsonViews.{view}
use Rattle.kola_schema.specs.SchemaViews.{class_tree}
use Rattle.kola_core.proofs.Lists.{taken_more}
use Rattle.kola_load.specs.Ids.{AreIds}
use Rattle.kola_load.specs.Loading.{element_fault}
use Rattle.kola_load.proofs.Walks.{among_next, among_found}
use Rattle.kola_load.proofs.Answering.{handed_on}
use Rattle.kola_load.proofs.elements.element_ids.Goals as goal

pub add_id-requires : goal.add_id-requires
add_id-requires c = subst (AreIds c.loop-i.ids) (take-map view c.loop-i.i c.args.elements.now) c.loop-i.invariant.0

pub returns-in_err-add_id : goal.returns-in_err-add_id
returns-in_err-add_id c =
    let es = c.args.elements.now in
    let test = element_fault (class_tree c.args.class.now) in
    handed_on _ _ c.from_residual.result _ c.from_residual.ensures.1 (λ n. among_found view es (map view es) refl c.loop-i.i c.index-elements-i.result c.loop-i-test.true c.index-elements-i.is test _ c.loop-i.invariant.1 _ (ap (λ l. test l (view c.index-elements-i.result)) (take-map view c.loop-i.i es) ∙ c.in_err-add_id.ensures n))

pub loop-i-preserved : goal.loop-i-preserved
loop-i-preserved c =
    let es = c.args.elements.now in
    let test = element_fault (class_tree c.args.class.now) in (
      subst (AreIds c.add_id.new.ids) (ap (λ l. l ++ view c.index-elements-i.result ∷ []) (sym (take-map view c.loop-i.i es)) ∙ sym (taken_more view es (map view es) c.loop-i.i c.index-elements-i.result refl c.loop-i-test.true c.index-elements-i.is)) c.in_ok-add_id.ensures.1,
      among_next view es (map view es) refl c.loop-i.i c.index-elements-i.result c.loop-i-test.true c.index-elements-i.is test _ c.loop-i.invariant.1 (ap (λ l. test l (view c.index-elements-i.result)) (take-map view c.loop-i.i es) ∙ c.in_ok-add_id.ensures.0),
    )

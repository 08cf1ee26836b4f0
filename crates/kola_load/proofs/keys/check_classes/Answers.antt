use Rattle.std.proofs.Common.{ap, subst, length, map, sym, ◌∙◌, arith}
use Rattle.kola_database.specs.ObjectViews.{object_tree}
use Rattle.kola_load.specs.Loading.{keys_fault}
use Rattle.kola_load.specs.KeyViews.{AreOfClass}
use Rattle.kola_load.proofs.Answering.{handed_on}
use Rattle.kola_load.proofs.KeyLists.{lists_next, lists_found}
use Rattle.kola_load.proofs.KeyPlaces.{as_many, of_class_at}
use Rattle.std.proofs.lemmas.List.{length-map}
use Rattle.kola_load.proofs.Walks.{at_place, seen_at}
use Rattle.kola_load.proofs.keys.check_classes.Goals as goal

pub returns-in_err-check_class : goal.returns-in_err-check_class
returns-in_err-check_class c =
    let S = c.args.schema.now in
    let oss = map (λ os. map object_tree os.items) c.args.lists.now in
    let p = at_place c.classes-classes.result.now S c.loop-i.i c.index-classes-i.result c.classes-classes.ensures c.loop-i-test.true c.index-classes-i.is in
    let l = as_many S oss c.requires.objects in
    let m = length-map c.args.lists.now (λ os. map object_tree os.items) in
    let q = seen_at (λ os. map object_tree os.items) c.args.lists.now c.loop-i.i c.index-lists-i.result (omega arith) c.index-lists-i.is in
    handed_on _ _ c.from_residual.result _ c.from_residual.ensures.1
    (λ e. lists_found S oss c.loop-i.i c.loop-i.invariant c.index-classes-i.result (map object_tree c.index-lists-i.result.items) p.0 q.0 p.1 q.1 _
    (ap (λ l. keys_fault c.index-classes-i.result (map object_tree l)) (sym c.deref.ensures.value) ∙ c.in_err-check_class.ensures e))

pub loop-i-preserved : goal.loop-i-preserved
loop-i-preserved c =
    let S = c.args.schema.now in
    let oss = map (λ os. map object_tree os.items) c.args.lists.now in
    let p = at_place c.classes-classes.result.now S c.loop-i.i c.index-classes-i.result c.classes-classes.ensures c.loop-i-test.true c.index-classes-i.is in
    let l = as_many S oss c.requires.objects in
    let m = length-map c.args.lists.now (λ os. map object_tree os.items) in
    let q = seen_at (λ os. map object_tree os.items) c.args.lists.now c.loop-i.i c.index-lists-i.result (omega arith) c.index-lists-i.is in
    lists_next S oss c.loop-i.i c.loop-i.invariant c.index-classes-i.result (map object_tree c.index-lists-i.result.items) p.0 q.0 p.1 q.1
    (ap (λ l. keys_fault c.index-classes-i.result (map object_tree l)) (sym c.deref.ensures.value) ∙ c.in_ok-check_class.ensures.0)

pub bounds-lists-i : goal.bounds-lists-i
bounds-lists-i c =
    let S = c.args.schema.now in
    let l = as_many S (map (λ os. map object_tree os.items) c.args.lists.now) c.requires.objects in
    let m = length-map c.args.lists.now (λ os. map object_tree os.items) in
    let n = ap length c.classes-classes.ensures in
    omega arith

pub check_class-requires-clause-objects : goal.check_class-requires-clause-objects
check_class-requires-clause-objects c =
    let S = c.args.schema.now in
    let oss = map (λ os. map object_tree os.items) c.args.lists.now in
    let p = at_place c.classes-classes.result.now S c.loop-i.i c.index-classes-i.result c.classes-classes.ensures c.loop-i-test.true c.index-classes-i.is in
    let l = as_many S oss c.requires.objects in
    let m = length-map c.args.lists.now (λ os. map object_tree os.items) in
    let q = seen_at (λ os. map object_tree os.items) c.args.lists.now c.loop-i.i c.index-lists-i.result (omega arith) c.index-lists-i.is in
    let h = of_class_at S oss c.loop-i.i c.index-classes-i.result (map object_tree c.index-lists-i.result.items) c.requires.objects p.0 p.1 q.1 in
    subst (λ os. AreOfClass c.index-classes-i.result (map object_tree os)) (sym c.deref.ensures.value) h

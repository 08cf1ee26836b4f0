use Rattle.std.proofs.Common.{◌≡◌, Some, None, map, position, take, refl, subst, sym, ap, ◌∙◌}
use Rattle.std.specs.Str.{bytes_eq}
use Rattle.std.specs.BTreeMap as tree
use Rattle.kola_core.proofs.Lists.{taken_more}
use Rattle.kola_values.specs.Databases.{Class, Object}
use Rattle.kola_schema.specs.Schemas.{names_of}
use Rattle.kola_database.specs.ObjectViews.{object_tree}
use Rattle.kola_load.specs.KeyViews.{key_tree, key_cmp, value_at_place}
use Rattle.kola_load.specs.Loading.{repeat_fault}
use Rattle.kola_load.specs.declared.fault.DbFault.TheVariants.{KeyRepeats}
use Rattle.kola_load.proofs.SeenKeys.{said, IsSeen, not_repeated, repeated, seen_more}
use Rattle.kola_load.proofs.Walks.{seen_at, among_next, among_found}
use Rattle.kola_load.proofs.KeyPlaces.{said_at_places, each_at_place}
use Rattle.kola_load.proofs.keys.check_key.Goals as goal

pub returns-in-Some : goal.returns-in-Some
returns-in-Some c =
    let os = c.args.objects.now in
    let us = map object_tree os in
    let i = c.loop-object.object-index in
    let o = object_tree c.object-item.result in
    let k = c.args.class.now in
    let key = c.args.key.now in
    let p = seen_at object_tree os i c.object-item.result c.loop-object-test.true c.object-item.is in
    let names = each_at_place (λ (x : Object). names_of x.values ≡ names_of k.attributes) us i o c.requires.objects p.0 p.1 in
    let e : key_tree c.in_ok-said.said ≡ said key o =
    c.in_ok-said.ensures ∙ ap (map (value_at_place o.values)) (c.as_slice-in-loop-object.ensures.value ∙ c.in_ok-places.ensures ∙ ap (map (λ a. position (bytes_eq a) (names_of k.attributes))) c.as_slice.ensures) ∙ said_at_places k o names key in
    let there : tree.get key_cmp c.loop-object.seen c.in_ok-said.said ≡ Some c.in-Some.first = sym c.in_ok-before.ensures.found ∙ c.in-Some.is in
    let f = repeated key c.loop-object.seen (take i us) c.loop-object.invariant.0 o c.in_ok-said.said e k c.args.place c.in-Some.first there ∙ ap (λ (x : Class). Some (KeyRepeats x.name c.args.place c.in-Some.first o.id)) (sym c.get.ensures) in
    λ n. among_found object_tree os us refl i c.object-item.result c.loop-object-test.true c.object-item.is (repeat_fault k c.args.place key) _ c.loop-object.invariant.1 _ (f ∙ ap Some (sym (c.key_repeats.ensures n)))

pub loop-object-preserved : goal.loop-object-preserved
loop-object-preserved c =
    let os = c.args.objects.now in
    let us = map object_tree os in
    let i = c.loop-object.object-index in
    let o = object_tree c.object-item.result in
    let k = c.args.class.now in
    let key = c.args.key.now in
    let p = seen_at object_tree os i c.object-item.result c.loop-object-test.true c.object-item.is in
    let names = each_at_place (λ (x : Object). names_of x.values ≡ names_of k.attributes) us i o c.requires.objects p.0 p.1 in
    let e : key_tree c.in_ok-said.said ≡ said key o =
    c.in_ok-said.ensures ∙ ap (map (value_at_place o.values)) (c.as_slice-in-loop-object.ensures.value ∙ c.in_ok-places.ensures ∙ ap (map (λ a. position (bytes_eq a) (names_of k.attributes))) c.as_slice.ensures) ∙ said_at_places k o names key in
    let none : tree.get key_cmp c.loop-object.seen c.in_ok-said.said ≡ None = sym c.in_ok-before.ensures.found ∙ c.in-None.is in (
      subst (IsSeen key c.earlier.new.seen) (sym (taken_more object_tree os us i c.object-item.result refl c.loop-object-test.true c.object-item.is))
          (seen_more key c.loop-object.seen (take i us) c.loop-object.invariant.0 o c.in_ok-said.said e c.earlier.new.seen none (c.in_ok-before.ensures.taken c.in-None.is)),
      among_next object_tree os us refl i c.object-item.result c.loop-object-test.true c.object-item.is (repeat_fault k c.args.place key) _ c.loop-object.invariant.1
          (not_repeated key c.loop-object.seen (take i us) c.loop-object.invariant.0 o c.in_ok-said.said e k c.args.place none),
    )

use Rattle.std.proofs.Common.{◌≡◌, ◌∙◌, true, Some, None, sym, ap, map, filter, take, drop, slice_get, option_map, subst}
use Rattle.std.specs.Str.{bytes_eq}
use Rattle.kola_values.specs.Databases.{Object}
use Rattle.kola_values.specs.Sets.{Rising}
use Rattle.kola_schema.specs.Meets.{object_values}
use Rattle.kola_schema.specs.Schemas.{are_distinct, names_of}
use Rattle.kola_database.specs.Stored.{object_named, attribute_at}
use Rattle.kola_values.specs.Views.{value_at}
use Rattle.kola_database.specs.ObjectViews.{object_tree}
use Rattle.kola_database.specs.declared.object.ObjectDef.{ObjectDef}
use Rattle.kola_database.proofs.Numbered.{named_holds, attribute_numbered, none_numbered}
use Rattle.kola_database.proofs.Runs.{range_at, no_range, named_kept, kept_objects}
use Rattle.kola_database.proofs.Stored.{class_rises}
use Rattle.kola_database.proofs.db.Db.attribute_at.Goals as goal
use Rattle.kola_database.proofs.db.Db.attribute_at.Goals.{After-objects_at-run, In_ok-object}

-- the objects that stand in the range are those of the class
run_is : (c : After-objects_at-run) → c.objects_at-run.result.now ≡ filter (λ (o : ObjectDef). bytes_eq c.in_ok-extent.extent.now.class o.class) c.self.inside.objects.items
run_is c =
    let x = c.in_ok-extent.extent.now in
    let r = c.in_ok-range.range in
    let os = c.self.inside.objects.items in
    let at : Some x ≡ slice_get c.self.inside.extents.items c.args.class = c.in_ok-extent.ensures ∙ ap (λ l. slice_get l c.args.class) c.deref.ensures.value in
    let ranged : Some r ≡ slice_get c.self.inside.ranges.items c.args.class = c.in_ok-range.ensures ∙ ap (λ l. slice_get l c.args.class) c.deref-2.ensures.value in
    c.objects_at-run.ensures
    ∙ ap (λ l. take r.1 (drop r.0 l)) c.deref-3.ensures.value
    ∙ range_at os c.self.inside.extents.items c.self.inside.ranges.items c.args.class x r c.self.invariant.ranged at ranged

named : (c : In_ok-object) → Some (object_tree c.in_ok-object.object.now) ≡ object_named c.in_ok-extent.extent.now.class c.args.id (map object_tree c.self.inside.objects.items)
named c =
    let x = c.in_ok-extent.extent.now in
    c.in_ok-object.ensures
    ∙ ap (λ l. object_named x.class c.args.id (map object_tree l)) (run_is (goal.at.value_from-requires c).After-objects_at-run)
    ∙ named_kept x.class c.args.id c.self.inside.objects.items

pub object_from-requires : goal.object_from-requires
object_from-requires c =
    let os = c.self.inside.objects.items in
    let n = c.in_ok-extent.extent.now.class in
    subst Rising (sym (ap (λ l. object_values (map object_tree l)) (run_is c) ∙ kept_objects n os)) (class_rises n (map object_tree os) c.self.invariant.rises)

pub value_from-requires : goal.value_from-requires
value_from-requires c =
    named_holds (λ (p : Object). are_distinct (names_of p.values) ≡ true) (map object_tree c.self.inside.objects.items) c.in_ok-extent.extent.now.class c.args.id (object_tree c.in_ok-object.object.now) c.self.invariant.once (named c)

pub returns-in_err-range : goal.returns-in_err-range
returns-in_err-range c =
    let x = c.in_ok-extent.extent.now in
    let at : Some x ≡ slice_get c.self.inside.extents.items c.args.class = c.in_ok-extent.ensures ∙ ap (λ l. slice_get l c.args.class) c.deref.ensures.value in
    let none : None ≡ slice_get c.self.inside.ranges.items c.args.class = c.in_err-range.ensures ∙ ap (λ l. slice_get l c.args.class) c.deref-2.ensures.value in
    absurd (no_range c.self.inside.objects.items c.self.inside.extents.items c.self.inside.ranges.items c.args.class x c.self.invariant.ranged at none)

pub returns-in_err-object : goal.returns-in_err-object
returns-in_err-object c =
    let os = c.self.inside.objects.items in
    let x = c.in_ok-extent.extent.now in
    let none : None ≡ object_named x.class c.args.id (map object_tree os) =
    c.in_err-object.ensures ∙ ap (λ l. object_named x.class c.args.id (map object_tree l)) (run_is (goal.at.returns-in_err-object c).After-objects_at-run) ∙ named_kept x.class c.args.id os in
    let at : Some x ≡ slice_get c.self.inside.extents.items c.args.class = c.in_ok-extent.ensures ∙ ap (λ l. slice_get l c.args.class) c.deref.ensures.value in
    ap (option_map value_at) c.from_residual-in_err-object.ensures
    ∙ none_numbered c.self.inside.extents.items (map object_tree os) c.args.class c.args.id c.args.a x c.in_ok-name.name.now at c.in_ok-name.ensures.value none
    ∙ ap (λ s. attribute_at s c.args.class c.args.id c.args.a) c.self.view_is

pub returns : goal.returns
returns c =
    let d = map object_tree c.self.inside.objects.items in
    let x = c.in_ok-extent.extent.now in
    let at : Some x ≡ slice_get c.self.inside.extents.items c.args.class = c.in_ok-extent.ensures ∙ ap (λ l. slice_get l c.args.class) c.deref.ensures.value in
    c.value_from.ensures
    ∙ attribute_numbered c.self.inside.extents.items d c.args.class c.args.id c.args.a x c.in_ok-name.name.now at c.in_ok-name.ensures.value (object_tree c.in_ok-object.object.now) (named (goal.at.returns c).In_ok-object)
    ∙ ap (λ s. attribute_at s c.args.class c.args.id c.args.a) c.self.view_is

use Rattle.std.proofs.Common.{◌≡◌, ◌∙◌, List, IsPermutation, sym, ap, map, rules, subst}
use Rattle.std.specs.Ordering.{is_lt}
use Rattle.std.proofs.lemmas.Fn.{always_returns_same}
use Rattle.std.proofs.lemmas.List.Sorted.{ranks_by, IsPermutation-map}
use Rattle.kola_values.specs.Order.{cmp}
use Rattle.kola_values.specs.Sets.{Rising, Each, canon}
use Rattle.kola_values.specs.Databases.{Classes, objects_of}
use Rattle.kola_schema.specs.Meets.{Meets, object_values}
use Rattle.kola_schema.specs.Schemas.{are_distinct}
use Rattle.kola_database.specs.ObjectViews.{object_tree}
use Rattle.kola_database.specs.ExtentViews.{AreRanges, extent_entry, extent_labels, filled}
use Rattle.kola_database.specs.declared.db.Extent.{Extent}
use Rattle.kola_database.specs.declared.object.ObjectDef.{ObjectDef}
use Rattle.kola_values.specs.Models.Total.{cmp_total}
use Rattle.kola_database.proofs.Reordered.{meets_reordered}
use Rattle.kola_schema.proofs.Schemas.{parts_of_schema}
use Rattle.kola_database.proofs.Stored.{object_value, in_order, filled_sets, filled_names, filled_classes, filled_entries, filled_labels, each_once}
use Rattle.kola_database.proofs.db.Db.make.Goals as goal
use Rattle.kola_database.proofs.db.Db.make.Goals.{In_ok-extents}

meets_sorted : (xs ys : List ObjectDef) (S : Classes) → IsPermutation xs ys → Meets S (map object_tree xs) → Meets S (map object_tree ys)
meets_sorted xs ys S p m = meets_reordered S (map object_tree xs) (map object_tree ys) (IsPermutation-map object_tree xs ys p) m

made : (c : In_ok-extents) → c.in_ok-extents.extents.items ≡ filled c.args.schema.now (map object_tree c.sort_unstable_by.new.self.items)
made c = c.in_ok-extents.ensures ∙ ap (λ l. filled c.args.schema.now (map object_tree l)) c.as_slice.ensures.value

pub extents_of-requires : goal.extents_of-requires
extents_of-requires c =
    let ys = c.sort_unstable_by.new.self.items in
    let up = c.sort_unstable_by.ensures.sorted (λ x y. is_lt (cmp (object_value x) (object_value y))) (ranks_by cmp_total object_value) (always_returns_same _ _ _ (λ a r f' k. search rules)) in
    let rises = in_order c.args.objects.items ys c.sort_unstable_by.ensures.permutation c.requires.distinct up in
    subst (λ l. Rising (object_values (map object_tree l))) (sym c.as_slice.ensures.value) rises

pub ranges_of-requires : goal.ranges_of-requires
ranges_of-requires c =
    let ys = c.sort_unstable_by.new.self.items in
    let up = c.sort_unstable_by.ensures.sorted (λ x y. is_lt (cmp (object_value x) (object_value y))) (ranks_by cmp_total object_value) (always_returns_same _ _ _ (λ a r f' k. search rules)) in
    let rises = in_order c.args.objects.items ys c.sort_unstable_by.ensures.permutation c.requires.distinct up in
    subst (λ l. Rising (object_values (map object_tree l))) (sym c.as_slice-2.ensures.value) rises

pub table_of-requires : goal.table_of-requires
table_of-requires c =
    let S = c.args.schema.now in
    let d = map object_tree c.as_slice.result.now in
    ap (λ l. are_distinct (map (λ x. x.name) l)) (c.as_slice-3.ensures.value ∙ c.in_ok-extents.ensures)
    ∙ ap are_distinct (filled_names S d)
    ∙ (parts_of_schema S c.well_formed-2.ensures).1

pub invariant_of-result : goal.invariant_of-result
invariant_of-result c =
    let ys = c.sort_unstable_by.new.self.items in
    let d = map object_tree ys in
    let up = c.sort_unstable_by.ensures.sorted (λ x y. is_lt (cmp (object_value x) (object_value y))) (ranks_by cmp_total object_value) (always_returns_same _ _ _ (λ a r f' k. search rules)) in
    let rises = in_order c.args.objects.items ys c.sort_unstable_by.ensures.permutation c.requires.distinct up in
    record {
      rises = rises;
      sets = subst (Each (λ x. x.members ≡ canon (objects_of x.class d))) (sym (made (goal.at.invariant_of-result c).In_ok-extents)) (filled_sets c.args.schema.now d rises);
      ranged = subst (λ l. AreRanges l (map (λ (x : Extent). x.class) c.in_ok-extents.extents.items) c.in_ok-ranges.ranges.items) c.as_slice-2.ensures.value
          (subst (λ ns. AreRanges c.as_slice-2.result.now ns c.in_ok-ranges.ranges.items) (sym (ap (map (λ (x : Extent). x.class)) (made (goal.at.invariant_of-result c).In_ok-extents) ∙ filled_classes c.args.schema.now d)) c.in_ok-ranges.ensures);
      named = c.in_ok-names.ensures ∙ ap (map (λ x. x.name)) c.as_slice-3.ensures.value;
      once = each_once c.args.schema.now d d (meets_sorted c.args.objects.items ys c.args.schema.now c.sort_unstable_by.ensures.permutation c.requires).fits;
    }

pub returns-clause-under : goal.returns-clause-under
returns-clause-under c =
    let xs = c.args.objects.items in
    let ys = c.sort_unstable_by.new.self.items in
    record {
      meets = meets_sorted xs ys c.args.schema.now c.sort_unstable_by.ensures.permutation c.requires;
      extents = ap (map extent_entry) (made (goal.at.returns-clause-under c).In_ok-extents) ∙ filled_entries c.args.schema.now (map object_tree ys);
      attributes = ap (map extent_labels) (made (goal.at.returns-clause-under c).In_ok-extents) ∙ filled_labels c.args.schema.now (map object_tree ys);
    }

pub returns-clause-objects : goal.returns-clause-objects
returns-clause-objects c = IsPermutation-map object_tree c.args.objects.items c.sort_unstable_by.new.self.items c.sort_unstable_by.ensures.permutation

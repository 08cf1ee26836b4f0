use Rattle.std.proofs.Common.{◌≡◌, true, false, true≢false, map, ap, sym, ◌∙◌, rules, subst}
use Rattle.std.specs.List.Sorted.{IsSortedBy}
use Rattle.std.specs.Ordering.{is_lt}
use Rattle.std.proofs.lemmas.Fn.{always_returns_same}
use Rattle.std.proofs.lemmas.List.Sorted.{ranks_by, IsPermutation-map, IsPermutation-sym, IsPermutation-trans}
use Rattle.kola_values.specs.Order.{cmp}
use Rattle.kola_values.specs.Sets.{Each}
use Rattle.kola_database.specs.MeetsTests.{IsHeld, meets}
use Rattle.kola_database.specs.ObjectViews.{object_tree}
use Rattle.kola_values.specs.Models.Total.{cmp_total}
use Rattle.kola_database.specs.declared.object.ObjectDef.{ObjectDef}
use Rattle.kola_database.proofs.Reordered.{meets_reordered}
use Rattle.kola_database.proofs.Stored.{object_value}
use Rattle.kola_database.proofs.Meeting.{meets_from, meets_to}
use Rattle.kola_database.proofs.meets.made.Goals as goal

pub sorted_meet-requires : goal.sorted_meet-requires
sorted_meet-requires c =
    let below = λ (o p : ObjectDef). is_lt (cmp (object_value o) (object_value p)) in
    let up = c.sort_unstable_by.ensures.sorted below (ranks_by cmp_total object_value) (always_returns_same _ _ _ (λ a r f' k. search rules)) in
    subst (IsSortedBy below) (sym c.as_slice-2.ensures.value) up

pub returns-then-not-met : goal.returns-then-not-met
returns-then-not-met c = λ m.
    let S = c.args.schema.now in
    let dx = map object_tree c.args.objects.items in
    let dy = map object_tree c.sort_unstable_by.new.self.items in
    let moved = IsPermutation-map object_tree c.args.objects.items c.sort_unstable_by.new.self.items c.sort_unstable_by.ensures.permutation in
    let failed : meets S dy ≡ false = ap (λ l. meets S (map object_tree l)) (sym c.as_slice-2.ensures.value) ∙ (sym c.in_ok-met.ensures ∙ c.if-not-met.true) in
    true≢false (sym (meets_to S dy (meets_reordered S dx dy moved m)) ∙ failed)

pub make-requires : goal.make-requires
make-requires c =
    let S = c.args.schema.now in
    let dy = map object_tree c.sort_unstable_by.new.self.items in
    let held = subst (λ l. Each IsHeld (map object_tree l)) c.as_slice.ensures.value c.all_held.ensures in
    let passed : meets S dy ≡ true = ap (λ l. meets S (map object_tree l)) (sym c.as_slice-2.ensures.value) ∙ (sym c.in_ok-met.ensures ∙ c.if-not-met.false) in
    meets_from S dy held passed

pub returns : goal.returns
returns c =
    let S = c.args.schema.now in
    let dx = map object_tree c.args.objects.items in
    let dy = map object_tree c.sort_unstable_by.new.self.items in
    let moved = IsPermutation-map object_tree c.args.objects.items c.sort_unstable_by.new.self.items c.sort_unstable_by.ensures.permutation in
    let held = subst (λ l. Each IsHeld (map object_tree l)) c.as_slice.ensures.value c.all_held.ensures in
    let passed : meets S dy ≡ true = ap (λ l. meets S (map object_tree l)) (sym c.as_slice-2.ensures.value) ∙ (sym c.in_ok-met.ensures ∙ c.if-not-met.false) in (
      c.in_ok-db.ensures.under,
      IsPermutation-trans dx dy c.in_ok-db.db.objects moved c.in_ok-db.ensures.objects,
      meets_reordered S dy dx (IsPermutation-sym dx dy moved) (meets_from S dy held passed),
    )

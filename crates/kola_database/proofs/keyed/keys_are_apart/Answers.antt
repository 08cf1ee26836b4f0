use Rattle.std.proofs.Common.{◌≡◌, List, ◌∙◌, ap, map, rules, subst}
use Rattle.std.specs.List.{IsAllAdjacentAnswer}
use Rattle.std.specs.Ordering.{is_lt}
use Rattle.std.proofs.lemmas.Fn.{always_returns_same}
use Rattle.std.proofs.lemmas.List.Sorted.{ranks_by}
use Rattle.kola_database.specs.MeetsTests.{no_two}
use Rattle.kola_database.specs.KeyedObjects.{cmp_keyed, same_keyed}
use Rattle.kola_database.specs.ObjectViews.{object_tree}
use Rattle.kola_database.specs.KeyedViews.{keyed_tree}
use Rattle.kola_database.specs.declared.keyed.Keyed.{Keyed}
use Rattle.kola_database.proofs.Sorting.{told_by_neighbours, no_two_moved}
use Rattle.kola_database.proofs.KeyedObjects.{cmp_keyed_total, same_keyed_flips, keyed_apart}
use Rattle.kola_database.proofs.KeyLoops.{no_two_seen}
use Rattle.kola_database.proofs.keyed.keys_are_apart.Goals as goal

pub returns : goal.returns
returns c =
    let below = λ (x y : Keyed). is_lt (cmp_keyed (keyed_tree x) (keyed_tree y)) in
    let up = c.sort_unstable_by.ensures.sorted below (ranks_by cmp_keyed_total keyed_tree) (always_returns_same _ _ _ (λ a r f' k. search rules)) in
    let told = c.is_sorted_by-apart.ensures.cases below (always_returns_same _ _ _ (λ a r f' k. search rules)) in
    told_by_neighbours cmp_keyed cmp_keyed_total keyed_tree c.sort_unstable_by.new.self.items c.is_sorted_by-apart.result up
    (subst (λ (l : List Keyed). IsAllAdjacentAnswer (λ x y b. b ≡ below x y) l c.is_sorted_by-apart.result) c.as_slice.ensures.value told)
    ∙ no_two_moved (λ (x y : Keyed). same_keyed (keyed_tree x) (keyed_tree y)) (λ x y. same_keyed_flips (keyed_tree x) (keyed_tree y)) c.in_ok-list.list.items c.sort_unstable_by.new.self.items c.sort_unstable_by.ensures.permutation
    ∙ no_two_seen keyed_tree same_keyed c.in_ok-list.list.items
    ∙ ap (no_two same_keyed) c.in_ok-list.ensures
    ∙ keyed_apart c.args.schema.now (map object_tree c.args.objects.now)

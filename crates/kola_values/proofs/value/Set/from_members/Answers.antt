use Rattle.std.proofs.Common.{◌≡◌, IfOk, ◌∙◌, sym, ap, map, rules, subst}
use Rattle.std.specs.Ordering.{is_lt}
use Rattle.std.proofs.lemmas.Fn.{dedup_same, always_returns_same}
use Rattle.std.proofs.lemmas.List.Sorted.{ranks_by}
use Rattle.kola_values.specs.Views.{value_tree}
use Rattle.kola_values.specs.Sets.{Rising}
use Rattle.kola_values.specs.Models.Total.{cmp_total}
use Rattle.kola_values.proofs.Making.{by_tree, same_tree, deduped_rises, made}
use Rattle.kola_values.proofs.value.Set.from_members.Goals as goal

pub from_rising-requires : goal.from_rising-requires
from_rising-requires c =
    let e = dedup_same _ same_tree _ (λ x y b f' x' y' k. search rules) c.sort_unstable_by.new.self.items c.dedup_by.new.self.items c.dedup_by.ensures.filtered in
    let up = c.sort_unstable_by.ensures.sorted (λ x y. is_lt (by_tree x y)) (ranks_by cmp_total value_tree) (always_returns_same _ _ _ (λ a r f' k. search rules)) in
    subst (λ l. Rising (map value_tree l)) (sym e) (deduped_rises c.sort_unstable_by.new.self.items up)

pub returns : goal.returns
returns c =
    let e = dedup_same _ same_tree _ (λ x y b f' x' y' k. search rules) c.sort_unstable_by.new.self.items c.dedup_by.new.self.items c.dedup_by.ensures.filtered in
    let up = c.sort_unstable_by.ensures.sorted (λ x y. is_lt (by_tree x y)) (ranks_by cmp_total value_tree) (always_returns_same _ _ _ (λ a r f' k. search rules)) in
    subst (λ l. IfOk c.from_rising.result (λ s. s ≡ l)) (ap (map value_tree) e ∙ made c.args.members.items c.sort_unstable_by.new.self.items c.sort_unstable_by.ensures.permutation up) c.from_rising.ensures

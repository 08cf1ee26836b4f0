-- How many ranges a select has.
use Rattle.std.proofs.Common.{◌≡◌, ℕ, suc, nat_le, List, [], ◌∷◌, length, map, refl, sym, ap, ◌∙◌}
use Rattle.std.proofs.lemmas.List.{length-map}
use Rattle.kola_core.specs.declared.name.Name.{Name}
use Rattle.oql_tree.specs.QueryTrees.{QueryTree, of_ranges}
use Rattle.oql_tree.specs.QueryViews.{named_entry}
use Rattle.oql_tree.specs.declared.query.Expr.{Expr}
use Rattle.kola_translate.specs.Building.{range_count}

counted : (us : List (List ℕ × ℕ × QueryTree)) → length us ≡ range_count (of_ranges us)
counted [] = refl
counted (u ∷ us) = ap suc (counted us)

pub few_by_length : (n : ℕ) (xs : List (Name × ℕ × Expr)) (us : List (List ℕ × ℕ × QueryTree)) → map named_entry xs ≡ us → n ≡ length xs → nat_le n 256 ≡ nat_le (range_count (of_ranges us)) 256
few_by_length n xs us e h = ap (λ k. nat_le k 256) (h ∙ (sym (length-map xs named_entry) ∙ (ap length e ∙ counted us)))

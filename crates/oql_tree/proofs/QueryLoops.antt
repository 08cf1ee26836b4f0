-- Loops over the operands, fields and ranges of a query: an entry weighs less than its list.
use Rattle.std.proofs.Common.{◌≡◌, ℕ, zero, suc, ◌+◌, ◌<◌, Bool, List, [], ◌∷◌, length, get_or, map, refl, ap, arith}
use Rattle.kola_core.specs.declared.name.Name.{Name}
use Rattle.kola_core.proofs.Lists.{seen, longer}
use Rattle.oql_tree.specs.QueryTrees.{QueryTree, of_links, of_set_links, of_fields, of_ranges}
use Rattle.oql_tree.specs.QueryViews.{query_tree, link_entry, set_link_entry, named_entry}
use Rattle.oql_tree.specs.Models.Weights.{weight, links_weight, set_links_weight, fields_weight, ranges_weight}
use Rattle.oql_tree.specs.declared.query.Expr.{Expr}

link_below : (ls : List (ℕ × QueryTree)) (i : ℕ) (d : ℕ × QueryTree) → i < length ls → weight (get_or ls i d).1 < links_weight (of_links ls)
link_below [] i d p = absurd (omega arith)
link_below (l ∷ ls) zero d p = omega arith
link_below (l ∷ ls) (suc i) d p = omega (arith, link_below ls i d (omega arith))

set_link_below : (ls : List (ℕ × Bool × QueryTree)) (i : ℕ) (d : ℕ × Bool × QueryTree) → i < length ls → weight (get_or ls i d).2 < set_links_weight (of_set_links ls)
set_link_below [] i d p = absurd (omega arith)
set_link_below (l ∷ ls) zero d p = omega arith
set_link_below (l ∷ ls) (suc i) d p = omega (arith, set_link_below ls i d (omega arith))

named_below : (fs : List (List ℕ × ℕ × QueryTree)) (i : ℕ) (d : List ℕ × ℕ × QueryTree) → i < length fs → weight (get_or fs i d).2 < fields_weight (of_fields fs)
named_below [] i d p = absurd (omega arith)
named_below (f ∷ fs) zero d p = omega arith
named_below (f ∷ fs) (suc i) d p = omega (arith, named_below fs i d (omega arith))

pub link_falls : (xs : List (ℕ × Expr)) (us : List (ℕ × QueryTree)) (i : ℕ) (x : ℕ × Expr) → map link_entry xs ≡ us → i < length xs → x ≡ get_or xs i x → weight (query_tree x.1) < links_weight (of_links us)
link_falls xs us i x e p h = omega (arith, ap (λ l. weight l.1) (seen link_entry xs us i x e p h), link_below us i (link_entry x) (longer link_entry xs us i e p))

pub set_link_falls : (xs : List (ℕ × Bool × Expr)) (us : List (ℕ × Bool × QueryTree)) (i : ℕ) (x : ℕ × Bool × Expr) → map set_link_entry xs ≡ us → i < length xs → x ≡ get_or xs i x → weight (query_tree x.2) < set_links_weight (of_set_links us)
set_link_falls xs us i x e p h = omega (arith, ap (λ l. weight l.2) (seen set_link_entry xs us i x e p h), set_link_below us i (set_link_entry x) (longer set_link_entry xs us i e p))

pub named_falls : (xs : List (Name × ℕ × Expr)) (us : List (List ℕ × ℕ × QueryTree)) (i : ℕ) (x : Name × ℕ × Expr) → map named_entry xs ≡ us → i < length xs → x ≡ get_or xs i x → weight (query_tree x.2) < fields_weight (of_fields us)
named_falls xs us i x e p h = omega (arith, ap (λ f. weight f.2) (seen named_entry xs us i x e p h), named_below us i (named_entry x) (longer named_entry xs us i e p))

-- fields and ranges weigh the same
pub ranges_as_fields : (rs : List (List ℕ × ℕ × QueryTree)) → fields_weight (of_fields rs) ≡ ranges_weight (of_ranges rs)
ranges_as_fields [] = refl
ranges_as_fields (r ∷ rs) = ap (λ n. 1 + weight r.2 + n) (ranges_as_fields rs)

pub range_falls : (xs : List (Name × ℕ × Expr)) (us : List (List ℕ × ℕ × QueryTree)) (i : ℕ) (x : Name × ℕ × Expr) → map named_entry xs ≡ us → i < length xs → x ≡ get_or xs i x → weight (query_tree x.2) < ranges_weight (of_ranges us)
range_falls xs us i x e p h = omega (arith, named_falls xs us i x e p h, ranges_as_fields us)

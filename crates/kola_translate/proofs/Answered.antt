-- What the program's way to a translation says of its answers.
use Rattle.std.proofs.Common.{◌≡◌, ℕ, ◌+◌, ◌≤◌, nat_le, ◌&&◌, Bool, true, false, [], Some, None, refl, sym, ap, ap₂, ◌∙◌, arith}
use Rattle.std.proofs.lemmas.Bool.Decides.{nat_tests}
use Rattle.kola_values.specs.Databases.{Classes}
use Rattle.kola_term.specs.Terms.{FunTree}
use Rattle.kola_term.specs.Counts.{fun_nodes, fun_depth}
use Rattle.kola_term.specs.Limits.{node_limit, depth_limit}
use Rattle.kola_term.proofs.Inversions.{and_true, some_same}
use Rattle.oql_tree.specs.QueryTrees.{QueryTree}
use Rattle.kola_translate.specs.Translation.{translation}
use Rattle.kola_translate.specs.Building.{and_then, function_of, build}
use Rattle.kola_translate.proofs.Limited.{within, made_if, limited_fun}
use Rattle.kola_translate.proofs.Exact.{as_fun, exact}

way : (S : Classes) (e : QueryTree) → and_then (build S [] e 0) (λ x m. function_of x.0 x.1 m) ≡ limited_fun (translation S e) 0
way S e = as_fun S [] e 0 (exact S [] e 0)

fits_limit : (a l : ℕ) → nat_le a l ≡ true → a ≤ l
fits_limit a l h = grind (arith, nat_tests)

limit_test : (a l : ℕ) → a ≤ l → nat_le a l ≡ true
limit_test a l h = grind (arith, nat_tests)

pub record Counts (f g : FunTree) : Type 0 where
  pub is : f ≡ g
  pub few : fun_nodes g ≤ node_limit
  pub shallow : fun_depth g ≤ depth_limit

some_limited : (b : Bool) (g f : FunTree) (k m d e : ℕ) → made_if b g k m ≡ Some ((f, d), e) → (b ≡ true) × (f ≡ g)
some_limited true g f k m d e h = (refl, sym (ap (λ z. z.0.0) (some_same ((g, k), m) ((f, d), e) h)))
some_limited false g f k m d e h = absurd (cc)

counted : (f g : FunTree) (d m : ℕ) → limited_fun g 0 ≡ Some ((f, d), m) → Counts f g
counted f g d m h =
    let p = some_limited (within (0 + fun_nodes g) (fun_depth g)) g f (fun_depth g) (0 + fun_nodes g) d m h in
    let q = and_true (nat_le (0 + fun_nodes g) node_limit) (nat_le (fun_depth g) depth_limit) p.0 in
    record { is = p.1; few = omega (arith, fits_limit (0 + fun_nodes g) node_limit q.0); shallow = fits_limit (fun_depth g) depth_limit q.1 }

pub way_made : (S : Classes) (e : QueryTree) (f : FunTree) (d m : ℕ) → and_then (build S [] e 0) (λ x k. function_of x.0 x.1 k) ≡ Some ((f, d), m) → Counts f (translation S e)
way_made S e f d m h = counted f (translation S e) d m (sym (way S e) ∙ h)

none_limited : (b : Bool) (g : FunTree) (k m : ℕ) → made_if b g k m ≡ None → b ≡ true → ⊥
none_limited true g k m h e = cc
none_limited false g k m h e = cc

pub way_refused : (S : Classes) (e : QueryTree) → and_then (build S [] e 0) (λ x k. function_of x.0 x.1 k) ≡ None → fun_nodes (translation S e) ≤ node_limit → fun_depth (translation S e) ≤ depth_limit → ⊥
way_refused S e h p q =
    let g = translation S e in
    none_limited (within (0 + fun_nodes g) (fun_depth g)) g (fun_depth g) (0 + fun_nodes g) (sym (way S e) ∙ h) (ap₂ (λ a b. a && b) (limit_test (0 + fun_nodes g) node_limit (omega (arith, p))) (limit_test (fun_depth g) depth_limit q))

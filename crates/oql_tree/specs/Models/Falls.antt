-- The parts of a query weigh less than the whole.
use Rattle.std.specs.Prelude.{◌≡◌, ℕ, ◌+◌, ◌≤◌, Bool, List, [], ◌∷◌, map, refl, Some, None}
use Rattle.std.proofs.Common.{arith, ap}
use denote.Param.Weighed.{most}
use Rattle.kola_core.specs.declared.name.Name.{Name}
use Rattle.oql_tree.specs.QueryTrees.{QueryTree, of_links, of_set_links, of_fields, of_ranges}
use Rattle.oql_tree.specs.QueryViews.{query_tree, link_entry, set_link_entry, named_entry}
use Rattle.oql_tree.specs.Models.Weights.{weight, links_weight, set_links_weight, fields_weight, ranges_weight, link_entries_weight, set_entries_weight, named_entries_weight}
use Rattle.oql_tree.specs.declared.query.Expr.{Expr}
use Rattle.oql_tree.specs.declared.query.Form.{Form}
use Rattle.oql_tree.specs.declared.query.Form.TheVariants as form
use Rattle.oql_tree.specs.declared.query.BoxedExpr.TheDeep.{deep-Expr, deep-Form}
use Rattle.oql_tree.specs.declared.query.BoxedExpr.TheShapes.{weighed-Chain-entries-at-2, weighed-SetChain-entries-at-3, weighed-NamedExprs-entries-at-3}

links_weight-of : (ls : List (ℕ × QueryTree)) → links_weight (of_links ls) ≡ link_entries_weight ls
links_weight-of [] = refl
links_weight-of (l ∷ ls) = ap (λ n. 1 + weight l.1 + n) (links_weight-of ls)

set_links_weight-of : (ls : List (ℕ × Bool × QueryTree)) → set_links_weight (of_set_links ls) ≡ set_entries_weight ls
set_links_weight-of [] = refl
set_links_weight-of (l ∷ ls) = ap (λ n. 1 + weight l.2 + n) (set_links_weight-of ls)

fields_weight-of : (fs : List (List ℕ × ℕ × QueryTree)) → fields_weight (of_fields fs) ≡ named_entries_weight fs
fields_weight-of [] = refl
fields_weight-of (f ∷ fs) = ap (λ n. 1 + weight f.2 + n) (fields_weight-of fs)

ranges_weight-of : (fs : List (List ℕ × ℕ × QueryTree)) → ranges_weight (of_ranges fs) ≡ named_entries_weight fs
ranges_weight-of [] = refl
ranges_weight-of (f ∷ fs) = ap (λ n. 1 + weight f.2 + n) (ranges_weight-of fs)

form_deep_le : (at : ℕ) (f : Form) → deep-Form f + 1 ≤ weight (query_tree (record { at = at; form = f })) + 1
form_deep_le at (form.Name n) = omega arith
form_deep_le at (form.Literal l) = omega arith
form_deep_le at (form.SetOf ls) = omega arith
form_deep_le at (form.Path e ls) = omega arith
form_deep_le at (form.Struct fs) = omega (arith, fields_weight-of fs)
form_deep_le at (form.Flatten e) = omega arith
form_deep_le at (form.SomeMember e) = omega arith
form_deep_le at (form.Not e) = omega arith
form_deep_le at (form.Intersect e ls) = omega (arith, links_weight-of ls)
form_deep_le at (form.And e ls) = omega (arith, links_weight-of ls)
form_deep_le at (form.Or e ls) = omega (arith, links_weight-of ls)
form_deep_le at (form.UnionExcept e ls) = omega (arith, set_links_weight-of ls)
form_deep_le at (form.Compare s a b) = omega arith
form_deep_le at (form.Exists x r b) = omega arith
form_deep_le at (form.ForAll x r b) = omega arith
form_deep_le at (form.Select h rs None) = omega (arith, ranges_weight-of rs)
form_deep_le at (form.Select h rs (Some w)) = omega (arith, ranges_weight-of rs)

pub query_deep_le : (e : Expr) → deep-Expr e ≤ weight (query_tree e)
query_deep_le e = omega (arith, form_deep_le e.at e.form)

abbrev link_deep : ℕ × Expr → ℕ
link_deep l = weighed-Chain-entries-at-2.weight Expr deep-Expr l

pub link_entries_le : (ls : List (ℕ × Expr)) → most link_deep ls ≤ link_entries_weight (map link_entry ls)
link_entries_le [] = omega arith
link_entries_le (l ∷ ls) = omega (arith, link_entries_le ls, query_deep_le l.1)

abbrev set_link_deep : ℕ × Bool × Expr → ℕ
set_link_deep l = weighed-SetChain-entries-at-3.weight Expr deep-Expr l

pub set_entries_le : (ls : List (ℕ × Bool × Expr)) → most set_link_deep ls ≤ set_entries_weight (map set_link_entry ls)
set_entries_le [] = omega arith
set_entries_le (l ∷ ls) = omega (arith, set_entries_le ls, query_deep_le l.2)

abbrev named_deep : Name × ℕ × Expr → ℕ
named_deep f = weighed-NamedExprs-entries-at-3.weight Expr deep-Expr f

pub named_entries_le : (fs : List (Name × ℕ × Expr)) → most named_deep fs ≤ named_entries_weight (map named_entry fs)
named_entries_le [] = omega arith
named_entries_le (f ∷ fs) = omega (arith, named_entries_le fs, query_deep_le f.2)

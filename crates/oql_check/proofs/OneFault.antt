-- A query has a type or a first fault, and one of them only.
use Rattle.std.proofs.Common.{◌≡◌, ℕ, ◌⊎◌, inl, inr, ◌↔◌, Ok, Err, refl, sym, ap, ◌∙◌}
use Rattle.kola_values.specs.Types.{TypeTree}
use Rattle.kola_values.specs.Databases.{Classes}
use Rattle.oql_tree.specs.QueryTrees.{QueryTree}
use Rattle.oql_check.specs.declared.fault.CheckWhy.{CheckWhy}
use Rattle.oql_check.specs.QueryTypes.{Scope, Checked, query_type, FirstFault}
use Rattle.oql_check.specs.TypedQueries.{HasQueryType}
use Rattle.oql_check.proofs.Checks.{ok_same}
use Rattle.oql_check.proofs.TypedBy.{typed_by}
use Rattle.oql_check.proofs.TypesFor.{type_for}

by_answer : (S : Classes) (ns : Scope) (e : QueryTree) (r : Checked TypeTree) → query_type S ns e ≡ r
    → ((t : TypeTree) × HasQueryType S ns e t) ⊎ ((at : ℕ) × (c : CheckWhy) × FirstFault S ns e at c)
by_answer S ns e (Ok t) h = inl (t, typed_by S ns e t h)
by_answer S ns e (Err f) h = inr (f.0, f.1, h)

pub typed_or_fault : (S : Classes) (ns : Scope) (e : QueryTree) → ((t : TypeTree) × HasQueryType S ns e t) ⊎ ((at : ℕ) × (c : CheckWhy) × FirstFault S ns e at c)
typed_or_fault S ns e = by_answer S ns e (query_type S ns e) refl

abbrev typed : TypeTree → Checked TypeTree
typed t = Ok t

apart : {t : TypeTree} {f : ℕ × CheckWhy} → typed t ≡ Err f → ⊥
apart e = absurd (cc)

pub not_both : (S : Classes) (ns : Scope) (e : QueryTree) (t : TypeTree) (at : ℕ) (c : CheckWhy) → HasQueryType S ns e t → FirstFault S ns e at c → ⊥
not_both S ns e t at c q h = apart (sym (type_for S q) ∙ h)

pub one_type : (S : Classes) (ns : Scope) (e : QueryTree) (t u : TypeTree) → HasQueryType S ns e t → HasQueryType S ns e u → t ≡ u
one_type S ns e t u p q = ok_same (sym (type_for S p) ∙ type_for S q)

abbrev faulty : ℕ × CheckWhy → Checked TypeTree
faulty f = Err f

same_fault : {f g : ℕ × CheckWhy} → faulty f ≡ faulty g → f ≡ g
same_fault k = cc

pub one_fault : (S : Classes) (ns : Scope) (e : QueryTree) (at place : ℕ) (c why : CheckWhy) → FirstFault S ns e at c → FirstFault S ns e place why → (at ≡ place) × (c ≡ why)
one_fault S ns e at place c why p q = let k = same_fault (sym p ∙ q) in (ap (λ f. f.0) k, ap (λ f. f.1) k)

pub answered : (S : Classes) (ns : Scope) (e : QueryTree) (t : TypeTree) → (query_type S ns e ≡ Ok t) ↔ HasQueryType S ns e t
answered S ns e t = (λ h. typed_by S ns e t h, λ q. type_for S q)

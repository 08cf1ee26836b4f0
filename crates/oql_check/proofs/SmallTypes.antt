-- No query has a type of more nodes than the limit, where no variable in scope has one.
use Rattle.std.proofs.Common.{◌≡◌, ℕ, ◌≤◌, Bool, true, false, cond, List, [], ◌∷◌, Some, refl, ap, subst, arith}
use Rattle.std.proofs.lemmas.Bool.Decides.{nat_tests}
use Rattle.std.specs.Str.{bytes_eq}
use Rattle.kola_values.specs.Types.{TypeTree, TInt, TStr, TBool, TClass, TSet, TStruct, FieldTypes, TEnd, TField, type_fields, type_nodes, types_nodes}
use Rattle.kola_values.specs.Databases.{Classes, look_up}
use Rattle.kola_term.proofs.Inversions.{some_same}
use Rattle.oql_tree.specs.QueryTrees.{LitTree, LitInt, LitStr, LitBool, QueryTree, QueryLinks, SetLinks}
use Rattle.oql_check.specs.Limits.{small, AreSmall}
use Rattle.oql_check.specs.QueryTypes.{Scope}
use Rattle.oql_check.specs.TypedQueries.{IsLiteral, Leads, l_end, l_attribute, l_field, HasQueryType, t_variable, t_extent, t_literal, t_set, t_path, t_struct, t_flatten, t_some_member, t_not, t_intersect, t_and, t_or, t_union_except, t_eq, t_ne, t_lt, t_le, t_gt, t_ge, t_member, t_exists, t_for_all, t_select, SetsJoin, s_end, s_link, BoolsJoin, b_end, b_link, UnionsJoin, u_end, u_link}

small_member : (t : TypeTree) → small (TSet t) ≡ true → small t ≡ true
unfolding small
small_member t h = grind (arith, nat_tests)

less_small : (t : TypeTree) (fs : FieldTypes) → type_nodes t ≤ types_nodes fs → small (TStruct fs) ≡ true → small t ≡ true
unfolding small
less_small t fs p h = grind (arith, nat_tests)

small_bool : small TBool ≡ true
unfolding small
small_bool = refl

small_extent : (c : List ℕ) → small (TSet (TClass c)) ≡ true
unfolding small
small_extent c = refl

literal_small : (t : TypeTree) (l : LitTree) → IsLiteral t l → small t ≡ true
unfolding small
literal_small TInt (LitInt n) h = refl
literal_small TStr (LitStr s) h = refl
literal_small TBool (LitBool b) h = refl
literal_small _ _ h = absurd h

literals_small : (t : TypeTree) (l : LitTree) → IsLiteral t l → small (TSet t) ≡ true
unfolding small
literals_small TInt (LitInt n) h = refl
literals_small TStr (LitStr s) h = refl
literals_small TBool (LitBool b) h = refl
literals_small _ _ h = absurd h

named_small : (x : List ℕ) (ns : Scope) (t : TypeTree) → AreSmall ns → look_up x ns ≡ Some t → small t ≡ true
named_small x [] t h e = absurd (cc)
named_small x (n ∷ ns) t h e = at (bytes_eq x n.0) (λ k. named_small x ns t h.1 k) e
  where
    at : (b : Bool) → (look_up x ns ≡ Some t → small t ≡ true) → cond b (Some n.1) (look_up x ns) ≡ Some t → small t ≡ true
    at true k g = subst (λ u. small u ≡ true) (some_same n.1 t g) h.0
    at false k g = k g

field_nodes : (l : List ℕ) (fs : FieldTypes) (t : TypeTree) → look_up l (type_fields fs) ≡ Some t → type_nodes t ≤ types_nodes fs
field_nodes l TEnd t e = absurd (cc)
field_nodes l (TField m u fs) t e = at (bytes_eq l m) (λ k. field_nodes l fs t k) e
  where
    at : (b : Bool) → (look_up l (type_fields fs) ≡ Some t → type_nodes t ≤ types_nodes fs) → cond b (Some u) (look_up l (type_fields fs)) ≡ Some t → type_nodes t ≤ types_nodes (TField m u fs)
    at true k g = omega (arith, ap type_nodes (some_same u t g))
    at false k g = omega (arith, k g)

module _ (S : Classes) where
  path_small : {t u : TypeTree} {ls : List (List ℕ × ℕ)} → Leads S t ls u → small t ≡ true → small u ≡ true
  path_small l_end h = h
  path_small (l_attribute e s k) h = path_small k s
  path_small (l_field {fs = fs} {l = l} {t = t} e k) h = path_small k (less_small t fs (field_nodes l fs t e) h)

  mutual
    pub type_small : {ns : Scope} {e : QueryTree} {t : TypeTree} → HasQueryType S ns e t → AreSmall ns → small t ≡ true
    type_small (t_variable {ns = ns} {x = x} {t = t} k) h = named_small x ns t h k
    type_small (t_extent {c = c} k e) h = small_extent c
    type_small (t_literal {l = l} {t = t} k) h = literal_small t l k
    type_small (t_set {l = l} {t = t} k) h = literals_small t l.0 k.0
    type_small (t_path q k) h = path_small k (type_small q h)
    type_small (t_struct q s) h = s
    type_small (t_flatten {t = t} q) h = small_member (TSet t) (type_small q h)
    type_small (t_some_member q) h = small_bool
    type_small (t_not q) h = small_bool
    type_small (t_intersect q k) h = sets_small k h (type_small q h)
    type_small (t_and q k) h = bools_small k h (type_small q h)
    type_small (t_or q k) h = bools_small k h (type_small q h)
    type_small (t_union_except q k) h = unions_small k h (type_small q h)
    type_small (t_eq p q) h = small_bool
    type_small (t_ne p q) h = small_bool
    type_small (t_lt p q o) h = small_bool
    type_small (t_le p q o) h = small_bool
    type_small (t_gt p q o) h = small_bool
    type_small (t_ge p q o) h = small_bool
    type_small (t_member p q) h = small_bool
    type_small (t_exists p q) h = small_bool
    type_small (t_for_all p q) h = small_bool
    type_small (t_select o p k q s) h = s

    sets_small : {ns : Scope} {t u : TypeTree} {ls : QueryLinks} → SetsJoin S ns t ls u → AreSmall ns → small t ≡ true → small u ≡ true
    sets_small s_end h g = g
    sets_small (s_link q k) h g = sets_small k h g

    bools_small : {ns : Scope} {t u : TypeTree} {ls : QueryLinks} → BoolsJoin S ns t ls u → AreSmall ns → small t ≡ true → small u ≡ true
    bools_small b_end h g = g
    bools_small (b_link q k) h g = bools_small k h g

    unions_small : {ns : Scope} {t u : TypeTree} {ls : SetLinks} → UnionsJoin S ns t ls u → AreSmall ns → small t ≡ true → small u ≡ true
    unions_small u_end h g = g
    unions_small (u_link q k) h g = unions_small k h g

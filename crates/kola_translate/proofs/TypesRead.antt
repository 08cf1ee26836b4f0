-- The type that the translation reads off a query is the one that it has.
use Rattle.std.proofs.Common.{◌≡◌, ℕ, List, ◌∷◌, refl, ap, ap₂, ◌∙◌}
use Rattle.kola_values.specs.Types.{TypeTree, TInt, TStr, TBool, TSet, TStruct, FieldTypes, TField}
use Rattle.kola_values.specs.Databases.{Classes, extent_class}
use Rattle.oql_tree.specs.QueryTrees.{LitTree, LitInt, LitStr, LitBool, QueryTree, QueryLinks, SetLinks, QueryFields, QueryRanges}
use Rattle.oql_check.specs.Checking.{literal_form}
use Rattle.oql_check.specs.QueryTypes.{Scope}
use Rattle.oql_check.specs.TypedQueries.{IsLiteral, Leads, l_end, l_attribute, l_field, HasQueryType, t_variable, t_extent, t_literal, t_set, t_path, t_struct, t_flatten, t_some_member, t_not, t_intersect, t_and, t_or, t_union_except, t_eq, t_ne, t_lt, t_le, t_gt, t_ge, t_member, t_exists, t_for_all, t_select, SetsJoin, s_end, s_link, BoolsJoin, b_end, b_link, UnionsJoin, u_end, u_link, HaveQueryTypes, f_end, f_field, BindScope, r_end, r_range}
use Rattle.kola_translate.specs.Translation.{type_or_unit, type_of_members, type_of_name, type_of_path, type_of, types_of, scope_behind}

pub literal_is : (t : TypeTree) (l : LitTree) → IsLiteral t l → literal_form l ≡ t
literal_is TInt (LitInt n) h = refl
literal_is TStr (LitStr s) h = refl
literal_is TBool (LitBool b) h = refl
literal_is _ _ h = absurd h

module _ (S : Classes) where
  path_is : {t u : TypeTree} {ls : List (List ℕ × ℕ)} → Leads S t ls u → type_of_path S t ls ≡ u
  path_is l_end = refl
  path_is (l_attribute {ls = ls} e s k) = ap (λ o. type_of_path S (type_or_unit o) ls) e ∙ path_is k
  path_is (l_field {ls = ls} e k) = ap (λ o. type_of_path S (type_or_unit o) ls) e ∙ path_is k

  sets_kept : {ns : Scope} {t u : TypeTree} {ls : QueryLinks} → SetsJoin S ns t ls u → t ≡ u
  sets_kept s_end = refl
  sets_kept (s_link q k) = sets_kept k

  bools_kept : {ns : Scope} {t u : TypeTree} {ls : QueryLinks} → BoolsJoin S ns t ls u → t ≡ u
  bools_kept b_end = refl
  bools_kept (b_link q k) = bools_kept k

  unions_kept : {ns : Scope} {t u : TypeTree} {ls : SetLinks} → UnionsJoin S ns t ls u → t ≡ u
  unions_kept u_end = refl
  unions_kept (u_link q k) = unions_kept k

  mutual
    pub type_is : {ns : Scope} {e : QueryTree} {t : TypeTree} → HasQueryType S ns e t → type_of S ns e ≡ t
    type_is (t_variable {x = x} k) = ap (λ o. type_of_name o (extent_class S x)) k
    type_is (t_extent k e) = ap₂ type_of_name k e
    type_is (t_literal {l = l} {t = t} k) = literal_is t l k
    type_is (t_set {l = l} {t = t} k) = ap TSet (literal_is t l.0 k.0)
    type_is (t_path {ls = ls} q k) = ap (λ t. type_of_path S t ls) (type_is q) ∙ path_is k
    type_is (t_struct q s) = ap TStruct (types_are q)
    type_is (t_flatten q) = ap type_of_members (type_is q)
    type_is (t_some_member q) = refl
    type_is (t_not q) = refl
    type_is (t_intersect q k) = type_is q ∙ sets_kept k
    type_is (t_and q k) = type_is q ∙ bools_kept k
    type_is (t_or q k) = type_is q ∙ bools_kept k
    type_is (t_union_except q k) = type_is q ∙ unions_kept k
    type_is (t_eq p q) = refl
    type_is (t_ne p q) = refl
    type_is (t_lt p q o) = refl
    type_is (t_le p q o) = refl
    type_is (t_gt p q o) = refl
    type_is (t_ge p q o) = refl
    type_is (t_member p q) = refl
    type_is (t_exists p q) = refl
    type_is (t_for_all p q) = refl
    type_is (t_select {h = h} o p k q s) = ap TSet (ap (λ ms. type_of S ms h) (scope_is p) ∙ type_is q)

    pub types_are : {ns : Scope} {before : List (List ℕ)} {fs : QueryFields} {ts : FieldTypes} → HaveQueryTypes S ns before fs ts → types_of S ns fs ≡ ts
    types_are f_end = refl
    types_are (f_field {l = l} n m q k) = ap₂ (TField l) (type_is q) (types_are k)

    pub scope_is : {ns ms : Scope} {rs : QueryRanges} → BindScope S ns rs ms → scope_behind S ns rs ≡ ms
    scope_is r_end = refl
    scope_is (r_range {ns = ns} {x = x} {rs = rs} q k) = ap (λ t. scope_behind S ((x, type_of_members t) ∷ ns) rs) (type_is q) ∙ scope_is k

-- A type that a query has is the one that the typing answers.
use Rattle.std.proofs.Common.{◌≡◌, ℕ, List, [], ◌∷◌, ◌++◌, Ok, refl, ap}
use Rattle.kola_values.specs.Types.{TypeTree, TBool, TClass, TSet, TStruct, FieldTypes, TField}
use Rattle.kola_values.specs.Databases.{Classes, attribute_type, extent_class}
use Rattle.oql_tree.specs.QueryTrees.{QueryTree, QueryLinks, SetLinks, QueryFields, QueryRanges, QueryWhere}
use Rattle.oql_tree.specs.declared.query.Sign.{Sign}
use Rattle.oql_tree.specs.declared.query.Sign.TheVariants as sign
use Rattle.oql_check.specs.declared.fault.CheckWhy.TheVariants as why
use Rattle.oql_check.specs.QueryTypes.{Scope, and_then, sized, set_at, bool_at, name_type, literal_type, alike, literals_type, found, step_type, path_type, struct_of, label_at, field_before, flat_type, sets_type, bools_type, compare_type, has_range, query_type, links_type, set_links_type, fields_type, ranges_scope, where_type}
use Rattle.oql_check.specs.TypedQueries.{Leads, l_end, l_attribute, l_field, HasQueryType, t_variable, t_extent, t_literal, t_set, t_path, t_struct, t_flatten, t_some_member, t_not, t_intersect, t_and, t_or, t_union_except, t_eq, t_ne, t_lt, t_le, t_gt, t_ge, t_member, t_exists, t_for_all, t_select, SetsJoin, s_end, s_link, BoolsJoin, b_end, b_link, UnionsJoin, u_end, u_link, HaveQueryTypes, f_end, f_field, BindScope, r_end, r_range, IsCondition, w_none, w_where}
use Rattle.oql_check.proofs.Checks.{then_is, provided_is, sized_is, same_is, sets_is, order_is, label_is, literal_is, alike_is}

module _ (S : Classes) where
  path_for : {t u : TypeTree} {ls : List (List ℕ × ℕ)} → Leads S t ls u → path_type S t ls ≡ Ok u
  path_for l_end = refl
  path_for (l_attribute {c = c} {a = a} {at = at} {ls = ls} {t = t} {u = u} e s k) =
      then_is (step_type S (TClass c) a at) (λ v. path_type S v ls) t (Ok u)
      (then_is (found at (attribute_type S c a)) (sized at) t (Ok t) (ap (found at) e) (sized_is at t s)) (path_for k)
  path_for (l_field {fs = fs} {l = l} {at = at} {ls = ls} {t = t} {u = u} e k) =
      then_is (step_type S (TStruct fs) l at) (λ v. path_type S v ls) t (Ok u) (ap (found at) e) (path_for k)

  compared : (s : Sign) (at : ℕ) (ns : Scope) (a b : QueryTree) (t u : TypeTree) → query_type S ns a ≡ Ok t → query_type S ns b ≡ Ok u → compare_type s at t u ≡ Ok TBool
      → and_then (query_type S ns a) (λ x. and_then (query_type S ns b) (λ y. compare_type s at x y)) ≡ Ok TBool
  compared s at ns a b t u h k e =
      then_is (query_type S ns a) (λ x. and_then (query_type S ns b) (λ y. compare_type s at x y)) t (Ok TBool) h
      (then_is (query_type S ns b) (λ y. compare_type s at t y) u (Ok TBool) k e)

  quantified : (at : ℕ) (ns : Scope) (x : List ℕ) (r b : QueryTree) (t : TypeTree) → query_type S ns r ≡ Ok (TSet t) → query_type S ((x, t) ∷ ns) b ≡ Ok TBool
      → and_then (query_type S ns r) (λ u. and_then (set_at at u) (λ m. and_then (query_type S ((x, m) ∷ ns) b) (bool_at at))) ≡ Ok TBool
  quantified at ns x r b t h k =
      then_is (query_type S ns r) (λ u. and_then (set_at at u) (λ m. and_then (query_type S ((x, m) ∷ ns) b) (bool_at at))) (TSet t) (Ok TBool) h
      (then_is (query_type S ((x, t) ∷ ns) b) (bool_at at) TBool (Ok TBool) k refl)

  mutual
    pub type_for : {ns : Scope} {e : QueryTree} {t : TypeTree} → HasQueryType S ns e t → query_type S ns e ≡ Ok t
    type_for (t_variable {ns = ns} {at = at} {x = x} {t = t} k) = ap (λ o. name_type at o (extent_class S x)) k
    type_for (t_extent {ns = ns} {at = at} {x = x} {c = c} k e) = λ i. name_type at (k i) (e i)
    type_for (t_literal {at = at} {l = l} {t = t} k) = literal_is at l t k
    type_for (t_set {at = at} {l = l} {ls = ls} {t = t} k) =
        then_is (literals_type at (l ∷ ls)) (λ u. Ok (TSet u)) t (Ok (TSet t))
        (then_is (literal_type l.1 l.0) (λ u. alike u ls) t (Ok t) (literal_is l.1 l.0 t k.0) (alike_is t ls k.1)) refl
    type_for (t_path {ns = ns} {e = e} {ls = ls} {t = t} {u = u} q k) = then_is (query_type S ns e) (λ v. path_type S v ls) t (Ok u) (type_for q) (path_for k)
    type_for (t_struct {ns = ns} {at = at} {fs = fs} {l = l} {t = t} {ts = ts} q s) =
        then_is (fields_type S ns [] fs) (struct_of at) (TField l t ts) (Ok (TStruct (TField l t ts))) (fields_for q) (sized_is at (TStruct (TField l t ts)) s)
    type_for (t_flatten {ns = ns} {at = at} {e = e} {t = t} q) = then_is (query_type S ns e) (flat_type at) (TSet (TSet t)) (Ok (TSet t)) (type_for q) refl
    type_for (t_some_member {ns = ns} {at = at} {e = e} {t = t} q) = then_is (query_type S ns e) (λ u. and_then (set_at at u) (λ _. Ok TBool)) (TSet t) (Ok TBool) (type_for q) refl
    type_for (t_not {ns = ns} {at = at} {e = e} q) = then_is (query_type S ns e) (bool_at at) TBool (Ok TBool) (type_for q) refl
    type_for (t_intersect {ns = ns} {e = e} {ls = ls} {t = t} {u = u} q k) = then_is (query_type S ns e) (λ v. links_type S ns sets_type v ls) t (Ok u) (type_for q) (sets_for k)
    type_for (t_and {ns = ns} {e = e} {ls = ls} {t = t} {u = u} q k) = then_is (query_type S ns e) (λ v. links_type S ns bools_type v ls) t (Ok u) (type_for q) (bools_for k)
    type_for (t_or {ns = ns} {e = e} {ls = ls} {t = t} {u = u} q k) = then_is (query_type S ns e) (λ v. links_type S ns bools_type v ls) t (Ok u) (type_for q) (bools_for k)
    type_for (t_union_except {ns = ns} {e = e} {ls = ls} {t = t} {u = u} q k) = then_is (query_type S ns e) (λ v. set_links_type S ns v ls) t (Ok u) (type_for q) (unions_for k)
    type_for (t_eq {ns = ns} {at = at} {a = a} {b = b} {t = t} p q) = compared sign.Eq at ns a b t t (type_for p) (type_for q) (same_is at t TBool)
    type_for (t_ne {ns = ns} {at = at} {a = a} {b = b} {t = t} p q) = compared sign.Ne at ns a b t t (type_for p) (type_for q) (same_is at t TBool)
    type_for (t_lt {ns = ns} {at = at} {a = a} {b = b} {t = t} p q o) = compared sign.Lt at ns a b t t (type_for p) (type_for q) (order_is at t o)
    type_for (t_le {ns = ns} {at = at} {a = a} {b = b} {t = t} p q o) = compared sign.Le at ns a b t t (type_for p) (type_for q) (order_is at t o)
    type_for (t_gt {ns = ns} {at = at} {a = a} {b = b} {t = t} p q o) = compared sign.Gt at ns a b t t (type_for p) (type_for q) (order_is at t o)
    type_for (t_ge {ns = ns} {at = at} {a = a} {b = b} {t = t} p q o) = compared sign.Ge at ns a b t t (type_for p) (type_for q) (order_is at t o)
    type_for (t_member {ns = ns} {at = at} {a = a} {b = b} {t = t} p q) = compared sign.Member at ns a b t (TSet t) (type_for p) (type_for q) (same_is at t TBool)
    type_for (t_exists {ns = ns} {at = at} {x = x} {r = r} {b = b} {t = t} p q) = quantified at ns x r b t (type_for p) (type_for q)
    type_for (t_for_all {ns = ns} {at = at} {x = x} {r = r} {b = b} {t = t} p q) = quantified at ns x r b t (type_for p) (type_for q)
    type_for (t_select {ns = ns} {ms = ms} {at = at} {h = h} {rs = rs} {w = w} {t = t} o p k q s) =
        provided_is (has_range rs) at why.NotASet (and_then (ranges_scope S ns rs) (λ xs. and_then (where_type S xs w) (λ _. and_then (query_type S xs h) (λ u. sized at (TSet u))))) (Ok (TSet t)) o
        (then_is (ranges_scope S ns rs) (λ xs. and_then (where_type S xs w) (λ _. and_then (query_type S xs h) (λ u. sized at (TSet u)))) ms (Ok (TSet t)) (ranges_for p)
        (then_is (where_type S ms w) (λ _. and_then (query_type S ms h) (λ u. sized at (TSet u))) TBool (Ok (TSet t)) (where_for k)
        (then_is (query_type S ms h) (λ u. sized at (TSet u)) t (Ok (TSet t)) (type_for q) (sized_is at (TSet t) s))))

    sets_for : {ns : Scope} {t u : TypeTree} {ls : QueryLinks} → SetsJoin S ns t ls u → links_type S ns sets_type t ls ≡ Ok u
    sets_for s_end = refl
    sets_for (s_link {ns = ns} {at = at} {e = e} {ls = ls} {t = t} {u = u} q k) =
        then_is (query_type S ns e) (λ v. and_then (sets_type at (TSet t) v) (λ w. links_type S ns sets_type w ls)) (TSet t) (Ok u) (type_for q)
        (then_is (sets_type at (TSet t) (TSet t)) (λ w. links_type S ns sets_type w ls) (TSet t) (Ok u) (sets_is at t) (sets_for k))

    bools_for : {ns : Scope} {t u : TypeTree} {ls : QueryLinks} → BoolsJoin S ns t ls u → links_type S ns bools_type t ls ≡ Ok u
    bools_for b_end = refl
    bools_for (b_link {ns = ns} {at = at} {e = e} {ls = ls} {u = u} q k) =
        then_is (query_type S ns e) (λ v. and_then (bools_type at TBool v) (λ w. links_type S ns bools_type w ls)) TBool (Ok u) (type_for q) (bools_for k)

    unions_for : {ns : Scope} {t u : TypeTree} {ls : SetLinks} → UnionsJoin S ns t ls u → set_links_type S ns t ls ≡ Ok u
    unions_for u_end = refl
    unions_for (u_link {ns = ns} {at = at} {e = e} {ls = ls} {t = t} {u = u} q k) =
        then_is (query_type S ns e) (λ v. and_then (sets_type at (TSet t) v) (λ w. set_links_type S ns w ls)) (TSet t) (Ok u) (type_for q)
        (then_is (sets_type at (TSet t) (TSet t)) (λ w. set_links_type S ns w ls) (TSet t) (Ok u) (sets_is at t) (unions_for k))

    fields_for : {ns : Scope} {before : List (List ℕ)} {fs : QueryFields} {ts : FieldTypes} → HaveQueryTypes S ns before fs ts → fields_type S ns before fs ≡ Ok ts
    fields_for f_end = refl
    fields_for (f_field {ns = ns} {before = before} {l = l} {at = at} {e = e} {fs = fs} {t = t} {ts = ts} n k q r) =
        let more = λ (u : TypeTree). field_before l u (fields_type S ns (before ++ l ∷ []) fs) in
        then_is (label_at at before l) (λ _. and_then (query_type S ns e) more) tt (Ok (TField l t ts)) (label_is at before l n k)
        (then_is (query_type S ns e) more t (Ok (TField l t ts)) (type_for q)
        (then_is (fields_type S ns (before ++ l ∷ []) fs) (λ xs. Ok (TField l t xs)) ts (Ok (TField l t ts)) (fields_for r) refl))

    ranges_for : {ns ms : Scope} {rs : QueryRanges} → BindScope S ns rs ms → ranges_scope S ns rs ≡ Ok ms
    ranges_for r_end = refl
    ranges_for (r_range {ns = ns} {ms = ms} {x = x} {at = at} {r = r} {rs = rs} {t = t} q k) =
        then_is (query_type S ns r) (λ u. and_then (set_at at u) (λ m. ranges_scope S ((x, m) ∷ ns) rs)) (TSet t) (Ok ms) (type_for q) (ranges_for k)

    where_for : {ns : Scope} {w : QueryWhere} → IsCondition S ns w → where_type S ns w ≡ Ok TBool
    where_for w_none = refl
    where_for (w_where {ns = ns} {at = at} {e = e} q) = then_is (query_type S ns e) (bool_at at) TBool (Ok TBool) (type_for q) refl

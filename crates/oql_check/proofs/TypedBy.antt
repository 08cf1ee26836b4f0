-- A type that the typing answers is one that the query has.
use Rattle.std.proofs.Common.{◌≡◌, ℕ, List, [], ◌∷◌, ◌++◌, Option, Some, None, Ok, refl, sym, ap, subst, ◌∙◌}
use Rattle.kola_values.specs.Types.{TypeTree, TBool, TClass, TSet, TStruct, FieldTypes, TEnd, TField, type_fields}
use Rattle.kola_values.specs.Databases.{Classes, attribute_type, extent_class, look_up}
use Rattle.oql_tree.specs.QueryTrees.{LitTree, QueryTree, QName, QLiteral, QSetOf, QPath, QStruct, QFlatten, QSomeMember, QNot, QIntersect, QAnd, QOr, QUnionExcept, QCompare, QExists, QForAll, QSelect, QueryLinks, NoLinks, Link, SetLinks, NoSets, SetLink, QueryFields, NoFields, QField, QueryRanges, NoRanges, QRange, QueryWhere, NoWhere, Where}
use Rattle.oql_tree.specs.declared.query.Sign.{Sign}
use Rattle.oql_tree.specs.declared.query.Sign.TheVariants as sign
use Rattle.oql_check.specs.declared.fault.CheckWhy.TheVariants as why
use Rattle.oql_check.specs.QueryTypes.{Scope, and_then, sized, set_at, bool_at, same_at, name_type, literal_type, alike, literals_type, found, step_type, path_type, struct_of, label_at, field_before, flat_type, sets_type, bools_type, compare_type, has_range, query_type, links_type, set_links_type, fields_type, ranges_scope, where_type}
use Rattle.oql_check.specs.TypedQueries.{Leads, l_end, l_attribute, l_field, HasQueryType, t_variable, t_extent, t_literal, t_set, t_path, t_struct, t_flatten, t_some_member, t_not, t_intersect, t_and, t_or, t_union_except, t_eq, t_ne, t_lt, t_le, t_gt, t_ge, t_member, t_exists, t_for_all, t_select, SetsJoin, s_end, s_link, BoolsJoin, b_end, b_link, UnionsJoin, u_end, u_link, HaveQueryTypes, f_end, f_field, BindScope, r_end, r_range, IsCondition, w_none, w_where}
use Rattle.oql_check.proofs.Checks.{ok_same, then_ok, provided_ok, sized_ok, set_ok, bool_ok, same_ok, found_ok, sets_ok, bools_ok, order_ok, flat_ok, label_ok, literal_ok, alike_ok}

module _ (S : Classes) where
  named : (ns : Scope) (at : ℕ) (x : List ℕ) (t : TypeTree) (o : Option TypeTree) (c : Option (List ℕ)) → look_up x ns ≡ o → extent_class S x ≡ c → name_type at o c ≡ Ok t → HasQueryType S ns (QName at x) t
  named ns at x t (Some u) c e f h = subst (HasQueryType S ns (QName at x)) (ok_same h) (t_variable e)
  named ns at x t None (Some c) e f h = subst (HasQueryType S ns (QName at x)) (ok_same h) (t_extent e f)
  named ns at x t None None e f h = absurd (cc)

  set_typed_by : (ns : Scope) (at : ℕ) (ls : List (LitTree × ℕ)) (t : TypeTree) → literals_type at ls ≡ Ok t → HasQueryType S ns (QSetOf at ls) (TSet t)
  set_typed_by ns at [] t h = absurd (cc)
  set_typed_by ns at (l ∷ ls) t h =
      let p = then_ok (literal_type l.1 l.0) (λ u. alike u ls) t h in
      let q = alike_ok p.0 ls t p.2 in
      subst (λ u. HasQueryType S ns (QSetOf at (l ∷ ls)) (TSet u)) (sym q.0) (t_set (literal_ok l.1 l.0 p.0 p.1, q.1))

  step_leads : (t : TypeTree) (l : List ℕ) (at : ℕ) (ls : List (List ℕ × ℕ)) (v u : TypeTree) → step_type S t l at ≡ Ok v → Leads S v ls u → Leads S t ((l, at) ∷ ls) u
  step_leads (TClass c) l at ls v u h k =
      let p = then_ok (found at (attribute_type S c l)) (sized at) v h in
      let q = sized_ok at p.0 v p.2 in
      l_attribute (found_ok at (attribute_type S c l) p.0 p.1) q.0 (subst (λ x. Leads S x ls u) (sym q.1) k)
  step_leads (TStruct fs) l at ls v u h k = l_field (found_ok at (look_up l (type_fields fs)) v h) k
  step_leads _ l at ls v u h k = absurd (cc)

  leads_by : (t : TypeTree) (ls : List (List ℕ × ℕ)) (u : TypeTree) → path_type S t ls ≡ Ok u → Leads S t ls u
  leads_by t [] u h = subst (Leads S t []) (ok_same h) l_end
  leads_by t (l ∷ ls) u h =
      let p = then_ok (step_type S t l.0 l.1) (λ v. path_type S v ls) u h in
      step_leads t l.0 l.1 ls p.0 u p.1 (leads_by p.0 ls u p.2)

  struct_typed : (ns : Scope) (at : ℕ) (fs : QueryFields) (ts : FieldTypes) (t : TypeTree) → HaveQueryTypes S ns [] fs ts → struct_of at ts ≡ Ok t → HasQueryType S ns (QStruct at fs) t
  struct_typed ns at fs TEnd t k h = absurd (cc)
  struct_typed ns at fs (TField l x ts) t k h =
      let p = sized_ok at (TStruct (TField l x ts)) t h in
      subst (HasQueryType S ns (QStruct at fs)) p.1 (t_struct k p.0)

  compared : (ns : Scope) (at : ℕ) (s : Sign) (a b : QueryTree) (t u v : TypeTree) → compare_type s at t u ≡ Ok v → HasQueryType S ns a t → HasQueryType S ns b u → HasQueryType S ns (QCompare at s a b) v
  compared ns at sign.Eq a b t u v h x y = let p = same_ok at t u TBool v h in subst (HasQueryType S ns (QCompare at sign.Eq a b)) p.1 (t_eq x (subst (HasQueryType S ns b) (sym p.0) y))
  compared ns at sign.Ne a b t u v h x y = let p = same_ok at t u TBool v h in subst (HasQueryType S ns (QCompare at sign.Ne a b)) p.1 (t_ne x (subst (HasQueryType S ns b) (sym p.0) y))
  compared ns at sign.Lt a b t u v h x y = let p = order_ok at t u v h in subst (HasQueryType S ns (QCompare at sign.Lt a b)) p.2 (t_lt x (subst (HasQueryType S ns b) (sym p.0) y) p.1)
  compared ns at sign.Le a b t u v h x y = let p = order_ok at t u v h in subst (HasQueryType S ns (QCompare at sign.Le a b)) p.2 (t_le x (subst (HasQueryType S ns b) (sym p.0) y) p.1)
  compared ns at sign.Gt a b t u v h x y = let p = order_ok at t u v h in subst (HasQueryType S ns (QCompare at sign.Gt a b)) p.2 (t_gt x (subst (HasQueryType S ns b) (sym p.0) y) p.1)
  compared ns at sign.Ge a b t u v h x y = let p = order_ok at t u v h in subst (HasQueryType S ns (QCompare at sign.Ge a b)) p.2 (t_ge x (subst (HasQueryType S ns b) (sym p.0) y) p.1)
  compared ns at sign.Member a b t u v h x y =
      let p = then_ok (set_at at u) (λ m. same_at at t m TBool) v h in
      let q = same_ok at t p.0 TBool v p.2 in
      subst (HasQueryType S ns (QCompare at sign.Member a b)) q.1 (t_member x (subst (HasQueryType S ns b) (set_ok at u p.0 p.1 ∙ ap TSet (sym q.0)) y))

  mutual
    pub typed_by : (ns : Scope) (e : QueryTree) (t : TypeTree) → query_type S ns e ≡ Ok t → HasQueryType S ns e t
    typed_by ns (QName at x) t h = named ns at x t (look_up x ns) (extent_class S x) refl refl h
    typed_by ns (QLiteral at l) t h = t_literal (literal_ok at l t h)
    typed_by ns (QSetOf at ls) t h =
        let p = then_ok (literals_type at ls) (λ u. Ok (TSet u)) t h in
        subst (HasQueryType S ns (QSetOf at ls)) (ok_same p.2) (set_typed_by ns at ls p.0 p.1)
    typed_by ns (QPath at e ls) t h =
        let p = then_ok (query_type S ns e) (λ u. path_type S u ls) t h in
        t_path (typed_by ns e p.0 p.1) (leads_by p.0 ls t p.2)
    typed_by ns (QStruct at fs) t h =
        let p = then_ok (fields_type S ns [] fs) (struct_of at) t h in
        struct_typed ns at fs p.0 t (fields_by ns [] fs p.0 p.1) p.2
    typed_by ns (QFlatten at e) t h =
        let p = then_ok (query_type S ns e) (flat_type at) t h in
        let q = flat_ok at p.0 t p.2 in
        subst (HasQueryType S ns (QFlatten at e)) q.2 (t_flatten (subst (HasQueryType S ns e) q.1 (typed_by ns e p.0 p.1)))
    typed_by ns (QSomeMember at e) t h =
        let p = then_ok (query_type S ns e) (λ u. and_then (set_at at u) (λ _. Ok TBool)) t h in
        let q = then_ok (set_at at p.0) (λ _. Ok TBool) t p.2 in
        subst (HasQueryType S ns (QSomeMember at e)) (ok_same q.2) (t_some_member (subst (HasQueryType S ns e) (set_ok at p.0 q.0 q.1) (typed_by ns e p.0 p.1)))
    typed_by ns (QNot at e) t h =
        let p = then_ok (query_type S ns e) (bool_at at) t h in
        let q = bool_ok at p.0 t p.2 in
        subst (HasQueryType S ns (QNot at e)) (sym q.1) (t_not (subst (HasQueryType S ns e) q.0 (typed_by ns e p.0 p.1)))
    typed_by ns (QIntersect at e ls) t h =
        let p = then_ok (query_type S ns e) (λ u. links_type S ns sets_type u ls) t h in
        t_intersect (typed_by ns e p.0 p.1) (sets_by ns p.0 ls t p.2)
    typed_by ns (QAnd at e ls) t h =
        let p = then_ok (query_type S ns e) (λ u. links_type S ns bools_type u ls) t h in
        t_and (typed_by ns e p.0 p.1) (bools_by ns p.0 ls t p.2)
    typed_by ns (QOr at e ls) t h =
        let p = then_ok (query_type S ns e) (λ u. links_type S ns bools_type u ls) t h in
        t_or (typed_by ns e p.0 p.1) (bools_by ns p.0 ls t p.2)
    typed_by ns (QUnionExcept at e ls) t h =
        let p = then_ok (query_type S ns e) (λ u. set_links_type S ns u ls) t h in
        t_union_except (typed_by ns e p.0 p.1) (unions_by ns p.0 ls t p.2)
    typed_by ns (QCompare at s a b) t h =
        let p = then_ok (query_type S ns a) (λ u. and_then (query_type S ns b) (λ v. compare_type s at u v)) t h in
        let q = then_ok (query_type S ns b) (λ v. compare_type s at p.0 v) t p.2 in
        compared ns at s a b p.0 q.0 t q.2 (typed_by ns a p.0 p.1) (typed_by ns b q.0 q.1)
    typed_by ns (QExists at x r b) t h =
        let p = then_ok (query_type S ns r) (λ u. and_then (set_at at u) (λ m. and_then (query_type S ((x, m) ∷ ns) b) (bool_at at))) t h in
        let q = then_ok (set_at at p.0) (λ m. and_then (query_type S ((x, m) ∷ ns) b) (bool_at at)) t p.2 in
        let k = then_ok (query_type S ((x, q.0) ∷ ns) b) (bool_at at) t q.2 in
        let g = bool_ok at k.0 t k.2 in
        subst (HasQueryType S ns (QExists at x r b)) (sym g.1) (t_exists (subst (HasQueryType S ns r) (set_ok at p.0 q.0 q.1) (typed_by ns r p.0 p.1)) (subst (HasQueryType S ((x, q.0) ∷ ns) b) g.0 (typed_by ((x, q.0) ∷ ns) b k.0 k.1)))
    typed_by ns (QForAll at x r b) t h =
        let p = then_ok (query_type S ns r) (λ u. and_then (set_at at u) (λ m. and_then (query_type S ((x, m) ∷ ns) b) (bool_at at))) t h in
        let q = then_ok (set_at at p.0) (λ m. and_then (query_type S ((x, m) ∷ ns) b) (bool_at at)) t p.2 in
        let k = then_ok (query_type S ((x, q.0) ∷ ns) b) (bool_at at) t q.2 in
        let g = bool_ok at k.0 t k.2 in
        subst (HasQueryType S ns (QForAll at x r b)) (sym g.1) (t_for_all (subst (HasQueryType S ns r) (set_ok at p.0 q.0 q.1) (typed_by ns r p.0 p.1)) (subst (HasQueryType S ((x, q.0) ∷ ns) b) g.0 (typed_by ((x, q.0) ∷ ns) b k.0 k.1)))
    typed_by ns (QSelect at hd rs w) t h =
        let o = provided_ok (has_range rs) at why.NotASet (and_then (ranges_scope S ns rs) (λ ms. and_then (where_type S ms w) (λ _. and_then (query_type S ms hd) (λ u. sized at (TSet u))))) t h in
        let p = then_ok (ranges_scope S ns rs) (λ ms. and_then (where_type S ms w) (λ _. and_then (query_type S ms hd) (λ u. sized at (TSet u)))) t o.1 in
        let q = then_ok (where_type S p.0 w) (λ _. and_then (query_type S p.0 hd) (λ u. sized at (TSet u))) t p.2 in
        let k = then_ok (query_type S p.0 hd) (λ u. sized at (TSet u)) t q.2 in
        let g = sized_ok at (TSet k.0) t k.2 in
        subst (HasQueryType S ns (QSelect at hd rs w)) g.1 (t_select o.0 (ranges_by ns rs p.0 p.1) (where_by p.0 w q.0 q.1) (typed_by p.0 hd k.0 k.1) g.0)

    sets_by : (ns : Scope) (t : TypeTree) (ls : QueryLinks) (u : TypeTree) → links_type S ns sets_type t ls ≡ Ok u → SetsJoin S ns t ls u
    sets_by ns t NoLinks u h = subst (SetsJoin S ns t NoLinks) (ok_same h) s_end
    sets_by ns t (Link at e ls) u h =
        let p = then_ok (query_type S ns e) (λ v. and_then (sets_type at t v) (λ w. links_type S ns sets_type w ls)) u h in
        let q = then_ok (sets_type at t p.0) (λ w. links_type S ns sets_type w ls) u p.2 in
        let r = sets_ok at t p.0 q.0 q.1 in
        subst (λ x. SetsJoin S ns x (Link at e ls) u) (sym r.1) (s_link (subst (HasQueryType S ns e) r.2 (typed_by ns e p.0 p.1)) (subst (λ x. SetsJoin S ns x ls u) r.3 (sets_by ns q.0 ls u q.2)))

    bools_by : (ns : Scope) (t : TypeTree) (ls : QueryLinks) (u : TypeTree) → links_type S ns bools_type t ls ≡ Ok u → BoolsJoin S ns t ls u
    bools_by ns t NoLinks u h = subst (BoolsJoin S ns t NoLinks) (ok_same h) b_end
    bools_by ns t (Link at e ls) u h =
        let p = then_ok (query_type S ns e) (λ v. and_then (bools_type at t v) (λ w. links_type S ns bools_type w ls)) u h in
        let q = then_ok (bools_type at t p.0) (λ w. links_type S ns bools_type w ls) u p.2 in
        let r = bools_ok at t p.0 q.0 q.1 in
        subst (λ x. BoolsJoin S ns x (Link at e ls) u) (sym r.0) (b_link (subst (HasQueryType S ns e) r.1 (typed_by ns e p.0 p.1)) (subst (λ x. BoolsJoin S ns x ls u) r.2 (bools_by ns q.0 ls u q.2)))

    unions_by : (ns : Scope) (t : TypeTree) (ls : SetLinks) (u : TypeTree) → set_links_type S ns t ls ≡ Ok u → UnionsJoin S ns t ls u
    unions_by ns t NoSets u h = subst (UnionsJoin S ns t NoSets) (ok_same h) u_end
    unions_by ns t (SetLink at b e ls) u h =
        let p = then_ok (query_type S ns e) (λ v. and_then (sets_type at t v) (λ w. set_links_type S ns w ls)) u h in
        let q = then_ok (sets_type at t p.0) (λ w. set_links_type S ns w ls) u p.2 in
        let r = sets_ok at t p.0 q.0 q.1 in
        subst (λ x. UnionsJoin S ns x (SetLink at b e ls) u) (sym r.1) (u_link (subst (HasQueryType S ns e) r.2 (typed_by ns e p.0 p.1)) (subst (λ x. UnionsJoin S ns x ls u) r.3 (unions_by ns q.0 ls u q.2)))

    fields_by : (ns : Scope) (before : List (List ℕ)) (fs : QueryFields) (ts : FieldTypes) → fields_type S ns before fs ≡ Ok ts → HaveQueryTypes S ns before fs ts
    fields_by ns before NoFields ts h = subst (HaveQueryTypes S ns before NoFields) (ok_same h) f_end
    fields_by ns before (QField l at e fs) ts h =
        let more = λ (t : TypeTree). field_before l t (fields_type S ns (before ++ l ∷ []) fs) in
        let o = then_ok (label_at at before l) (λ _. and_then (query_type S ns e) more) ts h in
        let p = label_ok at before l o.0 o.1 in
        let q = then_ok (query_type S ns e) more ts o.2 in
        let r = then_ok (fields_type S ns (before ++ l ∷ []) fs) (λ xs. Ok (TField l q.0 xs)) ts q.2 in
        subst (HaveQueryTypes S ns before (QField l at e fs)) (ok_same r.2) (f_field p.0 p.1 (typed_by ns e q.0 q.1) (fields_by ns (before ++ l ∷ []) fs r.0 r.1))

    ranges_by : (ns : Scope) (rs : QueryRanges) (ms : Scope) → ranges_scope S ns rs ≡ Ok ms → BindScope S ns rs ms
    ranges_by ns NoRanges ms h = subst (BindScope S ns NoRanges) (ok_same h) r_end
    ranges_by ns (QRange x at r rs) ms h =
        let p = then_ok (query_type S ns r) (λ t. and_then (set_at at t) (λ m. ranges_scope S ((x, m) ∷ ns) rs)) ms h in
        let q = then_ok (set_at at p.0) (λ m. ranges_scope S ((x, m) ∷ ns) rs) ms p.2 in
        r_range (subst (HasQueryType S ns r) (set_ok at p.0 q.0 q.1) (typed_by ns r p.0 p.1)) (ranges_by ((x, q.0) ∷ ns) rs ms q.2)

    where_by : (ns : Scope) (w : QueryWhere) (t : TypeTree) → where_type S ns w ≡ Ok t → IsCondition S ns w
    where_by ns NoWhere t h = w_none
    where_by ns (Where at e) t h =
        let p = then_ok (query_type S ns e) (bool_at at) t h in
        w_where (subst (HasQueryType S ns e) (bool_ok at p.0 t p.2).0 (typed_by ns e p.0 p.1))

-- When a query has a type under a schema and the variables in scope: a line for each form.
use Rattle.std.specs.Prelude.{ℕ, ◌<◌, Bool, true, false, List, [], ◌∷◌, ◌++◌, length, Some, None, ◌≡◌}
use Rattle.kola_core.specs.Integers.{In64}
use Rattle.kola_core.specs.NameLists.{is_listed}
use Rattle.kola_values.specs.Sets.{Each}
use Rattle.kola_values.specs.Types.{TypeTree, TInt, TStr, TBool, TClass, TSet, TStruct, FieldTypes, TEnd, TField, type_fields}
use Rattle.kola_values.specs.Databases.{Classes, attribute_type, extent_class, look_up}
use Rattle.oql_tree.specs.QueryTrees.{LitTree, LitInt, LitStr, LitBool, QueryTree, QName, QLiteral, QSetOf, QPath, QStruct, QFlatten, QSomeMember, QNot, QIntersect, QAnd, QOr, QUnionExcept, QCompare, QExists, QForAll, QSelect, QueryLinks, NoLinks, Link, SetLinks, NoSets, SetLink, QueryFields, NoFields, QField, QueryRanges, NoRanges, QRange, QueryWhere, NoWhere, Where}
use Rattle.oql_tree.specs.declared.query.Sign.TheVariants as sign
use Rattle.oql_check.specs.Limits.{small, field_limit}
use Rattle.oql_check.specs.QueryTypes.{Scope, is_ordered, has_range}

abbrev pub IsLiteral : TypeTree → LitTree → Type 0
IsLiteral TInt (LitInt n) = In64 n
IsLiteral TStr (LitStr s) = Unit {0}
IsLiteral TBool (LitBool b) = Unit {0}
IsLiteral _ _ = ⊥

-- the labels of a path lead from one type to another
pub data Leads (S : Classes) : TypeTree → List (List ℕ × ℕ) → TypeTree → Type 0 where
  l_end : {t : TypeTree} → Leads S t [] t
  l_attribute : {c a : List ℕ} {at : ℕ} {ls : List (List ℕ × ℕ)} {t u : TypeTree} → attribute_type S c a ≡ Some t → small t ≡ true → Leads S t ls u → Leads S (TClass c) ((a, at) ∷ ls) u
  l_field : {fs : FieldTypes} {l : List ℕ} {at : ℕ} {ls : List (List ℕ × ℕ)} {t u : TypeTree} → look_up l (type_fields fs) ≡ Some t → Leads S t ls u → Leads S (TStruct fs) ((l, at) ∷ ls) u

mutual
  pub data HasQueryType (S : Classes) : Scope → QueryTree → TypeTree → Type 0 where
    t_variable : {ns : Scope} {at : ℕ} {x : List ℕ} {t : TypeTree} → look_up x ns ≡ Some t → HasQueryType S ns (QName at x) t
    t_extent : {ns : Scope} {at : ℕ} {x c : List ℕ} → look_up x ns ≡ None → extent_class S x ≡ Some c → HasQueryType S ns (QName at x) (TSet (TClass c))
    t_literal : {ns : Scope} {at : ℕ} {l : LitTree} {t : TypeTree} → IsLiteral t l → HasQueryType S ns (QLiteral at l) t
    t_set : {ns : Scope} {at : ℕ} {l : LitTree × ℕ} {ls : List (LitTree × ℕ)} {t : TypeTree} → Each (λ (m : LitTree × ℕ). IsLiteral t m.0) (l ∷ ls) → HasQueryType S ns (QSetOf at (l ∷ ls)) (TSet t)
    t_path : {ns : Scope} {at : ℕ} {e : QueryTree} {ls : List (List ℕ × ℕ)} {t u : TypeTree} → HasQueryType S ns e t → Leads S t ls u → HasQueryType S ns (QPath at e ls) u
    t_struct : {ns : Scope} {at : ℕ} {fs : QueryFields} {l : List ℕ} {t : TypeTree} {ts : FieldTypes} → HaveQueryTypes S ns [] fs (TField l t ts) → small (TStruct (TField l t ts)) ≡ true
        → HasQueryType S ns (QStruct at fs) (TStruct (TField l t ts))
    t_flatten : {ns : Scope} {at : ℕ} {e : QueryTree} {t : TypeTree} → HasQueryType S ns e (TSet (TSet t)) → HasQueryType S ns (QFlatten at e) (TSet t)
    t_some_member : {ns : Scope} {at : ℕ} {e : QueryTree} {t : TypeTree} → HasQueryType S ns e (TSet t) → HasQueryType S ns (QSomeMember at e) TBool
    t_not : {ns : Scope} {at : ℕ} {e : QueryTree} → HasQueryType S ns e TBool → HasQueryType S ns (QNot at e) TBool
    t_intersect : {ns : Scope} {at : ℕ} {e : QueryTree} {ls : QueryLinks} {t u : TypeTree} → HasQueryType S ns e t → SetsJoin S ns t ls u → HasQueryType S ns (QIntersect at e ls) u
    t_and : {ns : Scope} {at : ℕ} {e : QueryTree} {ls : QueryLinks} {t u : TypeTree} → HasQueryType S ns e t → BoolsJoin S ns t ls u → HasQueryType S ns (QAnd at e ls) u
    t_or : {ns : Scope} {at : ℕ} {e : QueryTree} {ls : QueryLinks} {t u : TypeTree} → HasQueryType S ns e t → BoolsJoin S ns t ls u → HasQueryType S ns (QOr at e ls) u
    t_union_except : {ns : Scope} {at : ℕ} {e : QueryTree} {ls : SetLinks} {t u : TypeTree} → HasQueryType S ns e t → UnionsJoin S ns t ls u → HasQueryType S ns (QUnionExcept at e ls) u
    t_eq : {ns : Scope} {at : ℕ} {a b : QueryTree} {t : TypeTree} → HasQueryType S ns a t → HasQueryType S ns b t → HasQueryType S ns (QCompare at sign.Eq a b) TBool
    t_ne : {ns : Scope} {at : ℕ} {a b : QueryTree} {t : TypeTree} → HasQueryType S ns a t → HasQueryType S ns b t → HasQueryType S ns (QCompare at sign.Ne a b) TBool
    t_lt : {ns : Scope} {at : ℕ} {a b : QueryTree} {t : TypeTree} → HasQueryType S ns a t → HasQueryType S ns b t → is_ordered t ≡ true → HasQueryType S ns (QCompare at sign.Lt a b) TBool
    t_le : {ns : Scope} {at : ℕ} {a b : QueryTree} {t : TypeTree} → HasQueryType S ns a t → HasQueryType S ns b t → is_ordered t ≡ true → HasQueryType S ns (QCompare at sign.Le a b) TBool
    t_gt : {ns : Scope} {at : ℕ} {a b : QueryTree} {t : TypeTree} → HasQueryType S ns a t → HasQueryType S ns b t → is_ordered t ≡ true → HasQueryType S ns (QCompare at sign.Gt a b) TBool
    t_ge : {ns : Scope} {at : ℕ} {a b : QueryTree} {t : TypeTree} → HasQueryType S ns a t → HasQueryType S ns b t → is_ordered t ≡ true → HasQueryType S ns (QCompare at sign.Ge a b) TBool
    t_member : {ns : Scope} {at : ℕ} {a b : QueryTree} {t : TypeTree} → HasQueryType S ns a t → HasQueryType S ns b (TSet t) → HasQueryType S ns (QCompare at sign.Member a b) TBool
    t_exists : {ns : Scope} {at : ℕ} {x : List ℕ} {r b : QueryTree} {t : TypeTree} → HasQueryType S ns r (TSet t) → HasQueryType S ((x, t) ∷ ns) b TBool → HasQueryType S ns (QExists at x r b) TBool
    t_for_all : {ns : Scope} {at : ℕ} {x : List ℕ} {r b : QueryTree} {t : TypeTree} → HasQueryType S ns r (TSet t) → HasQueryType S ((x, t) ∷ ns) b TBool → HasQueryType S ns (QForAll at x r b) TBool
    t_select : {ns ms : Scope} {at : ℕ} {h : QueryTree} {rs : QueryRanges} {w : QueryWhere} {t : TypeTree} → has_range rs ≡ true → BindScope S ns rs ms → IsCondition S ms w
        → HasQueryType S ms h t → small (TSet t) ≡ true → HasQueryType S ns (QSelect at h rs w) (TSet t)

  -- the operands of an `intersect`, joined to one of the first type
  pub data SetsJoin (S : Classes) : Scope → TypeTree → QueryLinks → TypeTree → Type 0 where
    s_end : {ns : Scope} {t : TypeTree} → SetsJoin S ns t NoLinks t
    s_link : {ns : Scope} {at : ℕ} {e : QueryTree} {ls : QueryLinks} {t u : TypeTree} → HasQueryType S ns e (TSet t) → SetsJoin S ns (TSet t) ls u → SetsJoin S ns (TSet t) (Link at e ls) u

  -- those of an `and` or an `or`
  pub data BoolsJoin (S : Classes) : Scope → TypeTree → QueryLinks → TypeTree → Type 0 where
    b_end : {ns : Scope} {t : TypeTree} → BoolsJoin S ns t NoLinks t
    b_link : {ns : Scope} {at : ℕ} {e : QueryTree} {ls : QueryLinks} {u : TypeTree} → HasQueryType S ns e TBool → BoolsJoin S ns TBool ls u → BoolsJoin S ns TBool (Link at e ls) u

  -- those of a chain of `union` and `except`
  pub data UnionsJoin (S : Classes) : Scope → TypeTree → SetLinks → TypeTree → Type 0 where
    u_end : {ns : Scope} {t : TypeTree} → UnionsJoin S ns t NoSets t
    u_link : {ns : Scope} {at : ℕ} {except : Bool} {e : QueryTree} {ls : SetLinks} {t u : TypeTree} → HasQueryType S ns e (TSet t) → UnionsJoin S ns (TSet t) ls u
        → UnionsJoin S ns (TSet t) (SetLink at except e ls) u

  -- the fields of a struct behind these labels: each label is new, and fewer than eight stand before it
  pub data HaveQueryTypes (S : Classes) : Scope → List (List ℕ) → QueryFields → FieldTypes → Type 0 where
    f_end : {ns : Scope} {before : List (List ℕ)} → HaveQueryTypes S ns before NoFields TEnd
    f_field : {ns : Scope} {before : List (List ℕ)} {l : List ℕ} {at : ℕ} {e : QueryTree} {fs : QueryFields} {t : TypeTree} {ts : FieldTypes} → is_listed l before ≡ false
        → length before < field_limit → HasQueryType S ns e t → HaveQueryTypes S ns (before ++ l ∷ []) fs ts → HaveQueryTypes S ns before (QField l at e fs) (TField l t ts)

  -- the variables in scope behind the ranges
  pub data BindScope (S : Classes) : Scope → QueryRanges → Scope → Type 0 where
    r_end : {ns : Scope} → BindScope S ns NoRanges ns
    r_range : {ns ms : Scope} {x : List ℕ} {at : ℕ} {r : QueryTree} {rs : QueryRanges} {t : TypeTree} → HasQueryType S ns r (TSet t) → BindScope S ((x, t) ∷ ns) rs ms → BindScope S ns (QRange x at r rs) ms

  pub data IsCondition (S : Classes) : Scope → QueryWhere → Type 0 where
    w_none : {ns : Scope} → IsCondition S ns NoWhere
    w_where : {ns : Scope} {at : ℕ} {e : QueryTree} → HasQueryType S ns e TBool → IsCondition S ns (Where at e)

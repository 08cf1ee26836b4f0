-- The type of a query under a schema and the variables in scope, or its first fault. The parts of an expression come first, from left to right, and
-- its own tests after them, each with its cause and its place.
use Rattle.std.specs.Prelude.{ℕ, nat_lt, Bool, true, false, cond, not, List, [], ◌∷◌, ◌++◌, length, Option, Some, None, Result, Ok, Err, ◌≡◌}
use Rattle.kola_core.specs.Integers.{in_64}
use Rattle.kola_core.specs.NameLists.{is_listed}
use Rattle.kola_values.specs.Types.{TypeTree, TInt, TStr, TBool, TClass, TSet, TStruct, FieldTypes, TEnd, TField, same_type, type_fields}
use Rattle.kola_values.specs.Databases.{Classes, attribute_type, extent_class, look_up}
use Rattle.oql_tree.specs.QueryTrees.{LitTree, LitInt, LitStr, LitBool, QueryTree, QName, QLiteral, QSetOf, QPath, QStruct, QFlatten, QSomeMember, QNot, QIntersect, QAnd, QOr, QUnionExcept, QCompare, QExists, QForAll, QSelect, QueryLinks, NoLinks, Link, SetLinks, NoSets, SetLink, QueryFields, NoFields, QField, QueryRanges, NoRanges, QRange, QueryWhere, NoWhere, Where}
use Rattle.oql_tree.specs.declared.query.Sign.{Sign}
use Rattle.oql_tree.specs.declared.query.Sign.TheVariants as sign
use Rattle.oql_check.specs.declared.fault.CheckWhy.{CheckWhy}
use Rattle.oql_check.specs.declared.fault.CheckWhy.TheVariants as why
use Rattle.oql_check.specs.Limits.{small, field_limit}

-- the variables in scope with their types, newest first
abbrev pub Scope : Type 0
Scope = List (List ℕ × TypeTree)

-- what is found, or the place and the cause of the first fault
abbrev pub Checked : Type 0 → Type 0
Checked A = Result A (ℕ × CheckWhy)

abbrev pub refused : {A : Type 0} → ℕ → CheckWhy → Checked A
refused at c = Err (at, c)

-- what comes behind a part that has no fault
abbrev pub and_then : {A B : Type 0} → Checked A → (A → Checked B) → Checked B
and_then (Ok a) k = k a
and_then (Err e) k = Err e

-- what comes behind a test that is passed
abbrev pub provided : {A : Type 0} → Bool → ℕ → CheckWhy → Checked A → Checked A
provided b at c r = cond b r (refused at c)

-- ---- tests

abbrev pub sized : ℕ → TypeTree → Checked TypeTree
sized at t = provided (small t) at why.TypeTooLarge (Ok t)

-- the type of the members
abbrev pub set_at : ℕ → TypeTree → Checked TypeTree
set_at at (TSet t) = Ok t
set_at at _ = refused at why.NotASet

abbrev pub bool_at : ℕ → TypeTree → Checked TypeTree
bool_at at TBool = Ok TBool
bool_at at _ = refused at why.NotBool

abbrev pub same_at : ℕ → TypeTree → TypeTree → TypeTree → Checked TypeTree
same_at at t u r = provided (same_type t u) at why.TypesDiffer (Ok r)

abbrev pub is_ordered : TypeTree → Bool
is_ordered TInt = true
is_ordered TStr = true
is_ordered _ = false

-- ---- forms without parts

-- the variable of the name, or else the objects of the class whose extent has it
abbrev pub name_type : ℕ → Option TypeTree → Option (List ℕ) → Checked TypeTree
name_type at (Some t) c = Ok t
name_type at None (Some c) = Ok (TSet (TClass c))
name_type at None None = refused at why.UnknownName

-- the program's numbers have 64 bits: of another any cause serves
abbrev pub literal_type : ℕ → LitTree → Checked TypeTree
literal_type at (LitInt n) = provided (in_64 n) at why.TypesDiffer (Ok TInt)
literal_type at (LitStr s) = Ok TStr
literal_type at (LitBool b) = Ok TBool

-- each of these literals is of the type
abbrev pub alike : TypeTree → List (LitTree × ℕ) → Checked TypeTree
alike t [] = Ok t
alike t (l ∷ ls) = and_then (literal_type l.1 l.0) (λ u. and_then (same_at l.1 t u t) (λ _. alike t ls))

-- the type of the first literal, of which all others are; no text writes a set of none
abbrev pub literals_type : ℕ → List (LitTree × ℕ) → Checked TypeTree
literals_type at [] = refused at why.TypesDiffer
literals_type at (l ∷ ls) = and_then (literal_type l.1 l.0) (λ t. alike t ls)

-- ---- forms over the types of their parts

abbrev pub found : ℕ → Option TypeTree → Checked TypeTree
found at (Some t) = Ok t
found at None = refused at why.NoSuchAttribute

-- an attribute of an object, or a field of a struct
abbrev pub step_type : Classes → TypeTree → List ℕ → ℕ → Checked TypeTree
step_type S (TClass c) a at = and_then (found at (attribute_type S c a)) (sized at)
step_type S (TStruct fs) l at = found at (look_up l (type_fields fs))
step_type S _ l at = refused at why.NoSuchAttribute

-- the labels of a path one by one, each with its place
abbrev pub path_type : Classes → TypeTree → List (List ℕ × ℕ) → Checked TypeTree
path_type S t [] = Ok t
path_type S t (l ∷ ls) = and_then (step_type S t l.0 l.1) (λ u. path_type S u ls)

-- no text writes a struct without fields
abbrev pub struct_of : ℕ → FieldTypes → Checked TypeTree
struct_of at TEnd = refused at why.TooManyFields
struct_of at (TField l t ts) = sized at (TStruct (TField l t ts))

-- a label behind others: first whether it stands already, then whether there are eight
abbrev pub label_at : ℕ → List (List ℕ) → List ℕ → Checked (Unit {0})
label_at at before l = provided (not (is_listed l before)) at why.RepeatedLabel (provided (nat_lt (length before) field_limit) at why.TooManyFields (Ok tt))

abbrev pub field_before : List ℕ → TypeTree → Checked FieldTypes → Checked FieldTypes
field_before l t r = and_then r (λ ts. Ok (TField l t ts))

abbrev pub flat_type : ℕ → TypeTree → Checked TypeTree
flat_type at t = and_then (set_at at t) (λ u. and_then (set_at at u) (λ v. Ok (TSet v)))

-- `union`, `intersect` and `except`: both sides are sets, and of one type
abbrev pub sets_type : ℕ → TypeTree → TypeTree → Checked TypeTree
sets_type at t u = and_then (set_at at t) (λ m. and_then (set_at at u) (λ n. same_at at m n (TSet m)))

-- `and` and `or`
abbrev pub bools_type : ℕ → TypeTree → TypeTree → Checked TypeTree
bools_type at t u = and_then (bool_at at t) (λ _. bool_at at u)

-- `<` and its like
abbrev pub order_type : ℕ → TypeTree → TypeTree → Checked TypeTree
order_type at t u = and_then (same_at at t u TBool) (λ _. provided (is_ordered t) at why.NotOrdered (Ok TBool))

abbrev pub compare_type : Sign → ℕ → TypeTree → TypeTree → Checked TypeTree
compare_type sign.Eq at t u = same_at at t u TBool
compare_type sign.Ne at t u = same_at at t u TBool
compare_type sign.Lt at t u = order_type at t u
compare_type sign.Le at t u = order_type at t u
compare_type sign.Gt at t u = order_type at t u
compare_type sign.Ge at t u = order_type at t u
compare_type sign.Member at t u = and_then (set_at at u) (λ m. same_at at t m TBool)

-- no text writes a select without ranges
abbrev pub has_range : QueryRanges → Bool
has_range NoRanges = false
has_range (QRange x at e rs) = true

-- ---- all forms

abbrev mutual
  pub query_type : Classes → Scope → QueryTree → Checked TypeTree
  query_type S ns (QName at x) = name_type at (look_up x ns) (extent_class S x)
  query_type S ns (QLiteral at l) = literal_type at l
  query_type S ns (QSetOf at ls) = and_then (literals_type at ls) (λ t. Ok (TSet t))
  query_type S ns (QPath at e ls) = and_then (query_type S ns e) (λ t. path_type S t ls)
  query_type S ns (QStruct at fs) = and_then (fields_type S ns [] fs) (struct_of at)
  query_type S ns (QFlatten at e) = and_then (query_type S ns e) (flat_type at)
  query_type S ns (QSomeMember at e) = and_then (query_type S ns e) (λ t. and_then (set_at at t) (λ _. Ok TBool))
  query_type S ns (QNot at e) = and_then (query_type S ns e) (bool_at at)
  query_type S ns (QIntersect at e ls) = and_then (query_type S ns e) (λ t. links_type S ns sets_type t ls)
  query_type S ns (QAnd at e ls) = and_then (query_type S ns e) (λ t. links_type S ns bools_type t ls)
  query_type S ns (QOr at e ls) = and_then (query_type S ns e) (λ t. links_type S ns bools_type t ls)
  query_type S ns (QUnionExcept at e ls) = and_then (query_type S ns e) (λ t. set_links_type S ns t ls)
  query_type S ns (QCompare at s a b) = and_then (query_type S ns a) (λ t. and_then (query_type S ns b) (λ u. compare_type s at t u))
  query_type S ns (QExists at x r b) = and_then (query_type S ns r) (λ t. and_then (set_at at t) (λ m. and_then (query_type S ((x, m) ∷ ns) b) (bool_at at)))
  query_type S ns (QForAll at x r b) = and_then (query_type S ns r) (λ t. and_then (set_at at t) (λ m. and_then (query_type S ((x, m) ∷ ns) b) (bool_at at)))
  query_type S ns (QSelect at h rs w) =
      provided (has_range rs) at why.NotASet
      (and_then (ranges_scope S ns rs) (λ ms. and_then (where_type S ms w) (λ _. and_then (query_type S ms h) (λ t. sized at (TSet t)))))

  -- the operands of a chain, each joined to what stands before it
  pub links_type : Classes → Scope → (ℕ → TypeTree → TypeTree → Checked TypeTree) → TypeTree → QueryLinks → Checked TypeTree
  links_type S ns join t NoLinks = Ok t
  links_type S ns join t (Link at e ls) = and_then (query_type S ns e) (λ u. and_then (join at t u) (λ v. links_type S ns join v ls))

  pub set_links_type : Classes → Scope → TypeTree → SetLinks → Checked TypeTree
  set_links_type S ns t NoSets = Ok t
  set_links_type S ns t (SetLink at b e ls) = and_then (query_type S ns e) (λ u. and_then (sets_type at t u) (λ v. set_links_type S ns v ls))

  -- the fields of a struct behind these labels: each label is tested before its expression
  pub fields_type : Classes → Scope → List (List ℕ) → QueryFields → Checked FieldTypes
  fields_type S ns before NoFields = Ok TEnd
  fields_type S ns before (QField l at e fs) =
      and_then (label_at at before l) (λ _. and_then (query_type S ns e) (λ t. field_before l t (fields_type S ns (before ++ l ∷ []) fs)))

  -- the scope behind the ranges, each of which sees the variables before it
  pub ranges_scope : Classes → Scope → QueryRanges → Checked Scope
  ranges_scope S ns NoRanges = Ok ns
  ranges_scope S ns (QRange x at r rs) = and_then (query_type S ns r) (λ t. and_then (set_at at t) (λ m. ranges_scope S ((x, m) ∷ ns) rs))

  -- the condition, at the place of its word
  pub where_type : Classes → Scope → QueryWhere → Checked TypeTree
  where_type S ns NoWhere = Ok TBool
  where_type S ns (Where at e) = and_then (query_type S ns e) (bool_at at)

-- the first fault: its place and its cause
abbrev pub FirstFault : Classes → Scope → QueryTree → ℕ → CheckWhy → Type 0
FirstFault S ns e at c = query_type S ns e ≡ Err (at, c)

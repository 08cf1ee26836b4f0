-- The translation of a query to a term, by cases on the query: a line for each form. It reads the types of parts, since a label behind an object is
-- an attribute and behind a struct a field. Where a part is not of the type that is wanted, the answer is some term.
use Rattle.std.specs.Prelude.{ℕ, zero, suc, Bool, true, false, cond, List, [], ◌∷◌, Option, Some, None, option_map, map}
use Rattle.std.specs.Str.{bytes_eq}
use Rattle.kola_values.specs.Values.{ValueTree, VUnit, VPair}
use Rattle.kola_values.specs.Types.{TypeTree, TBool, TUnit, TClass, TSet, TPair, TStruct, FieldTypes, TEnd, TField, type_fields}
use Rattle.kola_values.specs.Sets.{canon}
use Rattle.kola_values.specs.Databases.{Classes, attribute_type, extent_class, look_up}
use Rattle.kola_canon.specs.Encoding.{enc, enc_type}
use Rattle.kola_term.specs.Literals.{set_type}
use Rattle.kola_term.specs.Terms.{CInt, CBool, CStr, CSet, CExtent, FunTree, FId, FFst, FSnd, FFlat, FUnion, FIsect, FMinus, FAttr, FComp, FPair, FK, FIf, FIter, PredTree, PEq, PLt, PLe, PMember, PAt, PAnd, POr, PNot, PKP, PEx, PFa}
use Rattle.oql_tree.specs.QueryTrees.{LitTree, LitInt, LitStr, LitBool, QueryTree, QName, QLiteral, QSetOf, QPath, QStruct, QFlatten, QSomeMember, QNot, QIntersect, QAnd, QOr, QUnionExcept, QCompare, QExists, QForAll, QSelect, QueryLinks, NoLinks, Link, SetLinks, NoSets, SetLink, QueryFields, NoFields, QField, QueryRanges, NoRanges, QRange, QueryWhere, NoWhere, Where}
use Rattle.oql_tree.specs.declared.query.Sign.{Sign}
use Rattle.oql_tree.specs.declared.query.Sign.TheVariants as sign
use Rattle.oql_check.specs.Checking.{literal_form}
use Rattle.oql_check.specs.QueryTypes.{Scope}
use Rattle.oql_check.specs.QueryMeaning.{Env, literal_value}

-- ---- the type of a typed query, without its tests

abbrev pub type_or_unit : Option TypeTree → TypeTree
type_or_unit (Some t) = t
type_or_unit None = TUnit

abbrev pub type_of_members : TypeTree → TypeTree
type_of_members (TSet t) = t
type_of_members _ = TUnit

abbrev pub type_of_extent : Option (List ℕ) → TypeTree
type_of_extent (Some c) = TSet (TClass c)
type_of_extent None = TUnit

abbrev pub type_of_name : Option TypeTree → Option (List ℕ) → TypeTree
type_of_name (Some t) c = t
type_of_name None c = type_of_extent c

-- of a set it is the first literal's
abbrev pub type_of_literals : List (LitTree × ℕ) → TypeTree
type_of_literals [] = TUnit
type_of_literals (l ∷ ls) = literal_form l.0

abbrev pub type_of_step : Classes → TypeTree → List ℕ → TypeTree
type_of_step S (TClass c) a = type_or_unit (attribute_type S c a)
type_of_step S (TStruct fs) l = type_or_unit (look_up l (type_fields fs))
type_of_step S _ l = TUnit

abbrev pub type_of_path : Classes → TypeTree → List (List ℕ × ℕ) → TypeTree
type_of_path S t [] = t
type_of_path S t (l ∷ ls) = type_of_path S (type_of_step S t l.0) ls

abbrev mutual
  pub type_of : Classes → Scope → QueryTree → TypeTree
  type_of S ns (QName at x) = type_of_name (look_up x ns) (extent_class S x)
  type_of S ns (QLiteral at l) = literal_form l
  type_of S ns (QSetOf at ls) = TSet (type_of_literals ls)
  type_of S ns (QPath at e ls) = type_of_path S (type_of S ns e) ls
  type_of S ns (QStruct at fs) = TStruct (types_of S ns fs)
  type_of S ns (QFlatten at e) = type_of_members (type_of S ns e)
  type_of S ns (QIntersect at e ls) = type_of S ns e
  type_of S ns (QAnd at e ls) = type_of S ns e
  type_of S ns (QOr at e ls) = type_of S ns e
  type_of S ns (QUnionExcept at e ls) = type_of S ns e
  type_of S ns (QSelect at h rs w) = TSet (type_of S (scope_behind S ns rs) h)
  -- the others are tests
  type_of S ns _ = TBool

  pub types_of : Classes → Scope → QueryFields → FieldTypes
  types_of S ns NoFields = TEnd
  types_of S ns (QField l at e fs) = TField l (type_of S ns e) (types_of S ns fs)

  -- the variables in scope behind the ranges, the newest first
  pub scope_behind : Classes → Scope → QueryRanges → Scope
  scope_behind S ns NoRanges = ns
  scope_behind S ns (QRange x at r rs) = scope_behind S ((x, type_of_members (type_of S ns r)) ∷ ns) rs

-- ---- the environment: the unit without variables, and with one more variable the pair of the older ones and of its value

abbrev pub env_type : Scope → TypeTree
env_type [] = TUnit
env_type (n ∷ ns) = TPair (env_type ns) (enc_type n.1)

abbrev pub env_value : Env → ValueTree
env_value [] = VUnit
env_value (e ∷ es) = VPair (env_value es) (enc e.1)

-- how many newer variables stand before the first of the name
abbrev pub distance : List ℕ → Scope → Option ℕ
distance x [] = None
distance x (n ∷ ns) = cond (bytes_eq x n.0) (Some 0) (option_map suc (distance x ns))

-- V(k): the variable with k newer ones
abbrev pub variable : ℕ → FunTree
variable zero = FSnd
variable (suc k) = FComp (variable k) FFst

-- ---- what a query is translated to: a function, a test, or a truth value

pub data Translated : Type 0 where
  Function : FunTree → Translated
  Test : PredTree → Translated
  Truth : Bool → Translated

abbrev pub as_function : Translated → FunTree
as_function (Function f) = f
as_function (Test p) = FIf p (FK (CBool true)) (FK (CBool false))
as_function (Truth b) = FK (CBool b)

abbrev pub as_predicate : Translated → PredTree
as_predicate (Function f) = PAt PEq (FPair f (FK (CBool true)))
as_predicate (Test p) = p
as_predicate (Truth b) = PKP b

-- ---- forms without parts

-- the variable, or the extent where there is none
abbrev pub name_term : List ℕ → Option ℕ → Translated
name_term x (Some k) = Function (variable k)
name_term x None = Function (FK (CExtent x))

abbrev pub literal_term : LitTree → Translated
literal_term (LitInt n) = Function (FK (CInt n))
literal_term (LitStr s) = Function (FK (CStr s))
literal_term (LitBool b) = Truth b

abbrev pub literal_values : List (LitTree × ℕ) → List ValueTree
literal_values ls = map (λ (l : LitTree × ℕ). literal_value l.0) ls

-- a set constant; what is none is no set of literals of one type
abbrev pub set_term : Option TypeTree → List ValueTree → Translated
set_term (Some t) vs = Function (FK (CSet vs))
set_term None vs = Function FId

-- ---- forms over the terms of their parts

abbrev pub after : Option FunTree → FunTree → FunTree
after (Some f) g = FComp f g
after None g = g

-- SEL(i, n), where the label stands at place i of n fields; none where n is 1
abbrev pub field_selector : List ℕ → FieldTypes → Option FunTree
field_selector l TEnd = None
field_selector l (TField m t TEnd) = None
field_selector l (TField m t (TField n u fs)) = cond (bytes_eq l m) (Some FFst) (Some (after (field_selector l (TField n u fs)) FSnd))

-- an attribute of an object, or a field of a struct
abbrev pub step_term : TypeTree → List ℕ → FunTree → FunTree
step_term (TClass c) a f = FComp (FAttr a) f
step_term (TStruct fs) l f = after (field_selector l fs) f
step_term _ l f = f

abbrev pub path_term : Classes → TypeTree → FunTree → List (List ℕ × ℕ) → FunTree
path_term S t f [] = f
path_term S t f (l ∷ ls) = path_term S (type_of_step S t l.0) (step_term t l.0 f) ls

-- the first field alone, and paired with the rest where others follow
abbrev pub field_term : FunTree → QueryFields → FunTree → FunTree
field_term f NoFields g = f
field_term f (QField l at e fs) g = FPair f g

abbrev pub intersect_term : Translated → Translated → Translated
intersect_term a b = Function (FComp FIsect (FPair (as_function a) (as_function b)))

-- `except` where b is true, and `union` else
abbrev pub union_except_term : Bool → Translated → Translated → Translated
union_except_term true a b = Function (FComp FMinus (FPair (as_function a) (as_function b)))
union_except_term false a b = Function (FComp FUnion (FPair (as_function a) (as_function b)))

abbrev pub and_term : Translated → Translated → Translated
and_term a b = Test (PAnd (as_predicate a) (as_predicate b))

abbrev pub or_term : Translated → Translated → Translated
or_term a b = Test (POr (as_predicate a) (as_predicate b))

abbrev pub compare_term : Sign → FunTree → FunTree → PredTree
compare_term sign.Eq f g = PAt PEq (FPair f g)
compare_term sign.Ne f g = PNot (PAt PEq (FPair f g))
compare_term sign.Lt f g = PAt PLt (FPair f g)
compare_term sign.Le f g = PAt PLe (FPair f g)
compare_term sign.Gt f g = PAt PLt (FPair g f)
compare_term sign.Ge f g = PAt PLe (FPair g f)
compare_term sign.Member f g = PAt PMember (FPair f g)

-- for each member of a range
abbrev pub over : FunTree → FunTree → FunTree
over f r = FComp f (FPair FId r)

-- the last range has the condition and the head; each before it joins the sets that the others give
abbrev pub range_term : QueryRanges → FunTree → PredTree → FunTree → FunTree → FunTree
range_term NoRanges r p h rest = over (FIter p h) r
range_term (QRange x at e rs) r p h rest = FComp FFlat (over (FIter (PKP true) rest) r)

-- ---- all forms

abbrev mutual
  pub term_of : Classes → Scope → QueryTree → Translated
  term_of S ns (QName at x) = name_term x (distance x ns)
  term_of S ns (QLiteral at l) = literal_term l
  term_of S ns (QSetOf at ls) = set_term (set_type (canon (literal_values ls))) (canon (literal_values ls))
  term_of S ns (QPath at e ls) = Function (path_term S (type_of S ns e) (as_function (term_of S ns e)) ls)
  term_of S ns (QStruct at fs) = Function (fields_term S ns fs)
  term_of S ns (QFlatten at e) = Function (FComp FFlat (as_function (term_of S ns e)))
  term_of S ns (QSomeMember at e) = Test (PAt (PEx (PKP true)) (FPair FId (as_function (term_of S ns e))))
  term_of S ns (QNot at e) = Test (PNot (as_predicate (term_of S ns e)))
  term_of S ns (QIntersect at e ls) = links_term S ns intersect_term (term_of S ns e) ls
  term_of S ns (QAnd at e ls) = links_term S ns and_term (term_of S ns e) ls
  term_of S ns (QOr at e ls) = links_term S ns or_term (term_of S ns e) ls
  term_of S ns (QUnionExcept at e ls) = set_links_term S ns (term_of S ns e) ls
  term_of S ns (QCompare at s a b) = Test (compare_term s (as_function (term_of S ns a)) (as_function (term_of S ns b)))
  term_of S ns (QExists at x r b) =
      Test (PAt (PEx (as_predicate (term_of S ((x, type_of_members (type_of S ns r)) ∷ ns) b))) (FPair FId (as_function (term_of S ns r))))
  term_of S ns (QForAll at x r b) =
      Test (PAt (PFa (as_predicate (term_of S ((x, type_of_members (type_of S ns r)) ∷ ns) b))) (FPair FId (as_function (term_of S ns r))))
  term_of S ns (QSelect at h rs w) =
      Function (ranges_term S ns rs (where_term S (scope_behind S ns rs) w) (as_function (term_of S (scope_behind S ns rs) h)))

  -- the operands of a chain, each joined to what stands before it
  pub links_term : Classes → Scope → (Translated → Translated → Translated) → Translated → QueryLinks → Translated
  links_term S ns join a NoLinks = a
  links_term S ns join a (Link at e ls) = links_term S ns join (join a (term_of S ns e)) ls

  pub set_links_term : Classes → Scope → Translated → SetLinks → Translated
  set_links_term S ns a NoSets = a
  set_links_term S ns a (SetLink at b e ls) = set_links_term S ns (union_except_term b a (term_of S ns e)) ls

  -- of no field it is some term
  pub fields_term : Classes → Scope → QueryFields → FunTree
  fields_term S ns NoFields = FId
  fields_term S ns (QField l at e fs) = field_term (as_function (term_of S ns e)) fs (fields_term S ns fs)

  -- of no range it is the head's; each range is translated before its own variable is bound
  pub ranges_term : Classes → Scope → QueryRanges → PredTree → FunTree → FunTree
  ranges_term S ns NoRanges p h = h
  ranges_term S ns (QRange x at r rs) p h =
      range_term rs (as_function (term_of S ns r)) p h (ranges_term S ((x, type_of_members (type_of S ns r)) ∷ ns) rs p h)

  -- the condition; without one each row passes
  pub where_term : Classes → Scope → QueryWhere → PredTree
  where_term S ns NoWhere = PKP true
  where_term S ns (Where at e) = as_predicate (term_of S ns e)

-- ---- the translation

-- as a function under the variables in scope
abbrev pub tr : Classes → Scope → QueryTree → FunTree
tr S ns e = as_function (term_of S ns e)

-- as a predicate
abbrev pub pr : Classes → Scope → QueryTree → PredTree
pr S ns e = as_predicate (term_of S ns e)

-- of a whole query
abbrev pub translation : Classes → QueryTree → FunTree
translation S e = tr S [] e

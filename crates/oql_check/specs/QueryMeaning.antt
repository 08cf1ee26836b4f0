-- The value of a query in a database under an environment, which gives the variables their values. Where a part is not of the type that is wanted,
-- the answer is some value.
use Rattle.std.specs.Prelude.{ℕ, Bool, true, false, not, ◌&&◌, ◌||◌, List, [], ◌∷◌, ◌++◌, Option, Some, None, map, filter, flat_map}
use Rattle.std.specs.Ordering.{is_lt, is_le}
use Rattle.kola_values.specs.Values.{ValueTree, VUnit, VInt, VBool, VStr, VStruct, FieldValues, VEnd, VField, fields}
use Rattle.kola_values.specs.Order.{cmp, same}
use Rattle.kola_values.specs.Sets.{any, all, has, members, set_of}
use Rattle.kola_values.specs.Databases.{Classes, Objects, attribute_of, objects_of, extent_class, look_up, value_or_unit}
use Rattle.oql_tree.specs.QueryTrees.{LitTree, LitInt, LitStr, LitBool, QueryTree, QName, QLiteral, QSetOf, QPath, QStruct, QFlatten, QSomeMember, QNot, QIntersect, QAnd, QOr, QUnionExcept, QCompare, QExists, QForAll, QSelect, QueryLinks, NoLinks, Link, SetLinks, NoSets, SetLink, QueryFields, NoFields, QField, QueryRanges, NoRanges, QRange, QueryWhere, NoWhere, Where}
use Rattle.oql_tree.specs.declared.query.Sign.{Sign}
use Rattle.oql_tree.specs.declared.query.Sign.TheVariants as sign

-- the variables with their values, newest first
abbrev pub Env : Type 0
Env = List (List ℕ × ValueTree)

abbrev pub truth : ValueTree → Bool
truth (VBool b) = b
truth _ = false

abbrev pub literal_value : LitTree → ValueTree
literal_value (LitInt n) = VInt n
literal_value (LitStr s) = VStr s
literal_value (LitBool b) = VBool b

-- the set of all objects of a class
abbrev pub extent_value : Objects → Option (List ℕ) → ValueTree
extent_value d (Some c) = set_of (objects_of c d)
extent_value d None = VUnit

-- the variable of the name, and the extent only where there is none
abbrev pub name_value : Option ValueTree → ValueTree → ValueTree
name_value (Some v) w = v
name_value None w = w

-- a field of a struct, or an attribute of an object
abbrev pub step_value : Objects → List ℕ → ValueTree → ValueTree
step_value d l (VStruct fs) = value_or_unit (look_up l (fields fs))
step_value d l v = attribute_of l d v

abbrev pub path_value : Objects → ValueTree → List (List ℕ × ℕ) → ValueTree
path_value d v [] = v
path_value d v (l ∷ ls) = path_value d (step_value d l.0 v) ls

abbrev pub union_value : ValueTree → ValueTree → ValueTree
union_value v w = set_of (members v ++ members w)

abbrev pub intersect_value : ValueTree → ValueTree → ValueTree
intersect_value v w = set_of (filter (λ x. has x (members w)) (members v))

abbrev pub except_value : ValueTree → ValueTree → ValueTree
except_value v w = set_of (filter (λ x. not (has x (members w))) (members v))

-- `except` where b is true, and `union` else
abbrev pub union_except_value : Bool → ValueTree → ValueTree → ValueTree
union_except_value true v w = except_value v w
union_except_value false v w = union_value v w

abbrev pub and_value : ValueTree → ValueTree → ValueTree
and_value v w = VBool (truth v && truth w)

abbrev pub or_value : ValueTree → ValueTree → ValueTree
or_value v w = VBool (truth v || truth w)

abbrev pub compare : Sign → ValueTree → ValueTree → Bool
compare sign.Eq v w = same v w
compare sign.Ne v w = not (same v w)
compare sign.Lt v w = is_lt (cmp v w)
compare sign.Le v w = is_le (cmp v w)
compare sign.Gt v w = is_lt (cmp w v)
compare sign.Ge v w = is_le (cmp w v)
compare sign.Member v w = has v (members w)

abbrev mutual
  pub mean : Classes → Objects → QueryTree → Env → ValueTree
  mean S d (QName at x) env = name_value (look_up x env) (extent_value d (extent_class S x))
  mean S d (QLiteral at l) env = literal_value l
  mean S d (QSetOf at ls) env = set_of (map (λ (l : LitTree × ℕ). literal_value l.0) ls)
  mean S d (QPath at e ls) env = path_value d (mean S d e env) ls
  mean S d (QStruct at fs) env = VStruct (fields_value S d fs env)
  mean S d (QFlatten at e) env = set_of (flat_map members (members (mean S d e env)))
  mean S d (QSomeMember at e) env = VBool (any (λ v. true) (members (mean S d e env)))
  mean S d (QNot at e) env = VBool (not (truth (mean S d e env)))
  mean S d (QIntersect at e ls) env = links_value S d intersect_value (mean S d e env) ls env
  mean S d (QAnd at e ls) env = links_value S d and_value (mean S d e env) ls env
  mean S d (QOr at e ls) env = links_value S d or_value (mean S d e env) ls env
  mean S d (QUnionExcept at e ls) env = set_links_value S d (mean S d e env) ls env
  mean S d (QCompare at s a b) env = VBool (compare s (mean S d a env) (mean S d b env))
  mean S d (QExists at x r b) env = VBool (any (λ m. truth (mean S d b ((x, m) ∷ env))) (members (mean S d r env)))
  mean S d (QForAll at x r b) env = VBool (all (λ m. truth (mean S d b ((x, m) ∷ env))) (members (mean S d r env)))
  mean S d (QSelect at h rs w) env = set_of (map (mean S d h) (filter (holds S d w) (rows S d rs env)))

  -- the operands of a chain, each joined to what stands before it
  pub links_value : Classes → Objects → (ValueTree → ValueTree → ValueTree) → ValueTree → QueryLinks → Env → ValueTree
  links_value S d join v NoLinks env = v
  links_value S d join v (Link at e ls) env = links_value S d join (join v (mean S d e env)) ls env

  pub set_links_value : Classes → Objects → ValueTree → SetLinks → Env → ValueTree
  set_links_value S d v NoSets env = v
  set_links_value S d v (SetLink at b e ls) env = set_links_value S d (union_except_value b v (mean S d e env)) ls env

  pub fields_value : Classes → Objects → QueryFields → Env → FieldValues
  fields_value S d NoFields env = VEnd
  fields_value S d (QField l at e fs) env = VField l (mean S d e env) (fields_value S d fs env)

  -- the environments that the ranges give, one by one for each member
  pub rows : Classes → Objects → QueryRanges → Env → List Env
  rows S d NoRanges env = env ∷ []
  rows S d (QRange x at r rs) env = flat_map (λ m. rows S d rs ((x, m) ∷ env)) (members (mean S d r env))

  -- the condition is true of a row; without one each row passes
  pub holds : Classes → Objects → QueryWhere → Env → Bool
  holds S d NoWhere env = true
  holds S d (Where at e) env = truth (mean S d e env)

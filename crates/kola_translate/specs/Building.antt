-- The translation as the program goes about it: part by part, with the number of the nodes made so far, and refused where a limit is passed. That
-- its answers are those of the translation is proved.
use Rattle.std.specs.Prelude.{ℕ, suc, ◌+◌, ◌*◌, max, nat_le, ◌&&◌, Bool, true, false, cond, List, [], ◌∷◌, Option, Some, None}
use Rattle.std.specs.Str.{bytes_eq}
use Rattle.kola_values.specs.Values.{ValueTree}
use Rattle.kola_values.specs.Types.{TypeTree, TClass, TStruct, FieldTypes, TEnd, TField}
use Rattle.kola_values.specs.Sets.{canon}
use Rattle.kola_values.specs.Databases.{Classes}
use Rattle.kola_term.specs.Limits.{node_limit, depth_limit}
use Rattle.kola_term.specs.Literals.{set_type}
use Rattle.kola_term.specs.Terms.{CInt, CBool, CStr, CSet, CExtent, FunTree, FId, FFst, FSnd, FFlat, FUnion, FIsect, FMinus, FAttr, FComp, FPair, FK, FIf, FIter, PredTree, PEq, PAt, PAnd, POr, PNot, PKP, PEx, PFa}
use Rattle.oql_tree.specs.QueryTrees.{LitTree, LitInt, LitStr, LitBool, QueryTree, QName, QLiteral, QSetOf, QPath, QStruct, QFlatten, QSomeMember, QNot, QIntersect, QAnd, QOr, QUnionExcept, QCompare, QExists, QForAll, QSelect, QueryLinks, NoLinks, Link, SetLinks, NoSets, SetLink, QueryFields, NoFields, QField, QueryRanges, NoRanges, QRange, QueryWhere, NoWhere, Where}
use Rattle.oql_tree.specs.declared.query.Sign.{Sign}
use Rattle.oql_tree.specs.declared.query.Sign.TheVariants as sign
use Rattle.oql_check.specs.QueryTypes.{Scope}
use Rattle.kola_translate.specs.Translation.{type_of_members, type_of_step, type_of, distance, variable, Translated, Function, Test, Truth, literal_values, compare_term, over}

-- what is made, with the number of all nodes behind it; none where a limit is passed
abbrev pub Building : Type 0 → Type 0
Building A = Option (A × ℕ)

abbrev pub and_then : {A B : Type 0} → Building A → (A → ℕ → Building B) → Building B
and_then (Some a) k = k a.0 a.1
and_then None k = None

-- so many nodes more, and levels above a depth: the new depth
abbrev pub charged : ℕ → ℕ → ℕ → ℕ → Building ℕ
charged more levels below n = cond (nat_le (n + more) node_limit && nat_le (levels + below) depth_limit) (Some (levels + below, n + more)) None

-- a thing with its depth
abbrev pub node : {A : Type 0} → A → ℕ → ℕ → ℕ → ℕ → Building (A × ℕ)
node x more levels below n = and_then (charged more levels below n) (λ d m. Some ((x, d), m))

abbrev pub as_function_part : Building (FunTree × ℕ) → Building (Translated × ℕ)
as_function_part r = and_then r (λ f m. Some ((Function f.0, f.1), m))

abbrev pub as_test_part : Building (PredTree × ℕ) → Building (Translated × ℕ)
as_test_part r = and_then r (λ p m. Some ((Test p.0, p.1), m))

-- ---- what a part stands for

abbrev pub function_of : Translated → ℕ → ℕ → Building (FunTree × ℕ)
function_of (Function f) d n = Some ((f, d), n)
function_of (Test p) d n = node (FIf p (FK (CBool true)) (FK (CBool false))) 5 1 (max d 2) n
function_of (Truth b) d n = node (FK (CBool b)) 2 2 0 n

abbrev pub predicate_of : Translated → ℕ → ℕ → Building (PredTree × ℕ)
predicate_of (Function f) d n = node (PAt PEq (FPair f (FK (CBool true)))) 5 2 (max d 2) n
predicate_of (Test p) d n = Some ((p, d), n)
predicate_of (Truth b) d n = node (PKP b) 1 1 0 n

-- ---- forms

abbrev pub name_built : List ℕ → Option ℕ → ℕ → Building (FunTree × ℕ)
name_built x (Some k) n = node (variable k) (1 + 2 * k) (1 + k) 0 n
name_built x None n = node (FK (CExtent x)) 2 2 0 n

abbrev pub literal_built : LitTree → ℕ → Building (Translated × ℕ)
literal_built (LitInt z) n = as_function_part (node (FK (CInt z)) 2 2 0 n)
literal_built (LitStr s) n = as_function_part (node (FK (CStr s)) 2 2 0 n)
literal_built (LitBool b) n = node (Truth b) 0 0 0 n

abbrev pub set_built : Option TypeTree → List ValueTree → ℕ → Building (FunTree × ℕ)
set_built (Some t) vs n = node (FK (CSet vs)) 2 2 0 n
set_built None vs n = node FId 1 1 0 n

-- `flat`, or another leaf, behind a function
abbrev pub leaf_built : FunTree → FunTree × ℕ → ℕ → Building (FunTree × ℕ)
leaf_built l f n = node (FComp l f.0) 2 1 (max 1 f.1) n

abbrev pub comp_built : FunTree × ℕ → FunTree × ℕ → ℕ → Building (FunTree × ℕ)
comp_built f g n = node (FComp f.0 g.0) 1 1 (max f.1 g.1) n

abbrev pub pair_built : FunTree × ℕ → FunTree × ℕ → ℕ → Building (FunTree × ℕ)
pair_built f g n = node (FPair f.0 g.0) 1 1 (max f.1 g.1) n

abbrev pub op_built : FunTree → FunTree × ℕ → FunTree × ℕ → ℕ → Building (FunTree × ℕ)
op_built op f g n = node (FComp op (FPair f.0 g.0)) 3 2 (max f.1 g.1) n

abbrev pub and_built : PredTree × ℕ → PredTree × ℕ → ℕ → Building (PredTree × ℕ)
and_built p q n = node (PAnd p.0 q.0) 1 1 (max p.1 q.1) n

abbrev pub or_built : PredTree × ℕ → PredTree × ℕ → ℕ → Building (PredTree × ℕ)
or_built p q n = node (POr p.0 q.0) 1 1 (max p.1 q.1) n

abbrev pub compare_nodes : Sign → ℕ
compare_nodes sign.Ne = 4
compare_nodes _ = 3

abbrev pub compare_levels : Sign → ℕ
compare_levels sign.Ne = 3
compare_levels _ = 2

abbrev pub compare_built : Sign → FunTree × ℕ → FunTree × ℕ → ℕ → Building (PredTree × ℕ)
compare_built s f g n = node (compare_term s f.0 g.0) (compare_nodes s) (compare_levels s) (max f.1 g.1) n

abbrev pub quantified_built : (PredTree → PredTree) → PredTree × ℕ → FunTree × ℕ → ℕ → Building (PredTree × ℕ)
quantified_built q p r n = node (PAt (q p.0) (FPair FId r.0)) 4 2 (max p.1 (max 1 r.1)) n

abbrev pub last_built : PredTree × ℕ → FunTree × ℕ → FunTree × ℕ → ℕ → Building (FunTree × ℕ)
last_built p h r n = node (over (FIter p.0 h.0) r.0) 4 2 (max (max p.1 h.1) (max 1 r.1)) n

-- its own seven nodes are counted before the ranges behind it, so that no more are gone into than there is room for
abbrev pub more_built : FunTree × ℕ → FunTree × ℕ → ℕ → Building (FunTree × ℕ)
more_built rest r n = node (FComp FFlat (over (FIter (PKP true) rest.0) r.0)) 0 3 (max (max 1 rest.1) (max 1 r.1)) n

-- ---- fields and paths

abbrev pub behind : Option (FunTree × ℕ) → FunTree × ℕ → ℕ → Building (FunTree × ℕ)
behind (Some s) f n = comp_built s f n
behind None f n = Some (f, n)

-- what the selector of a later field is in a struct of one more field
abbrev pub later_built : Option (FunTree × ℕ) → ℕ → Building (Option (FunTree × ℕ))
later_built (Some s) n = and_then (node (FComp s.0 FSnd) 2 1 (max s.1 1) n) (λ f m. Some (Some f, m))
later_built None n = and_then (node FSnd 1 1 0 n) (λ f m. Some (Some f, m))

abbrev pub selector_built : List ℕ → FieldTypes → ℕ → Building (Option (FunTree × ℕ))
selector_built l TEnd n = Some (None, n)
selector_built l (TField m t TEnd) n = Some (None, n)
selector_built l (TField m t (TField k u fs)) n =
    cond (bytes_eq l m) (and_then (node FFst 1 1 0 n) (λ f j. Some (Some f, j))) (and_then (selector_built l (TField k u fs) n) later_built)

abbrev pub step_built : TypeTree → List ℕ → FunTree × ℕ → ℕ → Building (FunTree × ℕ)
step_built (TClass c) a f n = leaf_built (FAttr a) f n
step_built (TStruct fs) l f n = and_then (selector_built l fs n) (λ s m. behind s f m)
step_built _ l f n = Some (f, n)

abbrev pub path_built : Classes → TypeTree → FunTree × ℕ → List (List ℕ × ℕ) → ℕ → Building (FunTree × ℕ)
path_built S t f [] n = Some (f, n)
path_built S t f (l ∷ ls) n = and_then (step_built t l.0 f n) (λ g m. path_built S (type_of_step S t l.0) g ls m)

abbrev pub field_built : FunTree × ℕ → QueryFields → (ℕ → Building (FunTree × ℕ)) → ℕ → Building (FunTree × ℕ)
field_built f NoFields rest n = Some (f, n)
field_built f (QField l at e fs) rest n = and_then (rest n) (λ g m. pair_built f g m)

-- `except` where b is true, and `union` else
abbrev pub set_link_op : Bool → FunTree
set_link_op true = FMinus
set_link_op false = FUnion

-- ---- ranges

-- more ranges than levels are refused at once
abbrev pub range_count : QueryRanges → ℕ
range_count NoRanges = 0
range_count (QRange x at r rs) = suc (range_count rs)

abbrev pub few_ranges : QueryRanges → Building (FunTree × ℕ) → Building (FunTree × ℕ)
few_ranges rs r = cond (nat_le (range_count rs) depth_limit) r None

abbrev pub range_built : QueryRanges → FunTree × ℕ → (ℕ → Building (PredTree × ℕ)) → (ℕ → Building (FunTree × ℕ)) → (ℕ → Building (FunTree × ℕ)) → ℕ → Building (FunTree × ℕ)
range_built NoRanges r condition head rest n = and_then (condition n) (λ p m. and_then (head m) (λ h k. last_built p h r k))
range_built (QRange x at e rs) r condition head rest n = and_then (node (tt {0}) 7 0 0 n) (λ _ i. and_then (rest i) (λ f m. more_built f r m))

-- ---- all forms

abbrev mutual
  pub build : Classes → Scope → QueryTree → ℕ → Building (Translated × ℕ)
  build S ns (QName at x) n = as_function_part (name_built x (distance x ns) n)
  build S ns (QLiteral at l) n = literal_built l n
  build S ns (QSetOf at ls) n = as_function_part (set_built (set_type (canon (literal_values ls))) (canon (literal_values ls)) n)
  build S ns (QPath at e ls) n =
      and_then (and_then (build S ns e n) (λ x m. function_of x.0 x.1 m)) (λ f m. as_function_part (path_built S (type_of S ns e) f ls m))
  build S ns (QStruct at fs) n = as_function_part (fields_built S ns fs n)
  build S ns (QFlatten at e) n = and_then (and_then (build S ns e n) (λ x m. function_of x.0 x.1 m)) (λ f m. as_function_part (leaf_built FFlat f m))
  build S ns (QSomeMember at e) n =
      as_test_part (and_then (and_then (build S ns e n) (λ x m. function_of x.0 x.1 m)) (λ r m. and_then (node (PKP true) 1 1 0 m) (λ p k. quantified_built PEx p r k)))
  build S ns (QNot at e) n = as_test_part (and_then (and_then (build S ns e n) (λ x m. predicate_of x.0 x.1 m)) (λ p m. node (PNot p.0) 1 1 p.1 m))
  build S ns (QIntersect at e ls) n = and_then (build S ns e n) (λ x m. sets_built S ns x ls m)
  build S ns (QAnd at e ls) n = and_then (build S ns e n) (λ x m. tests_built S ns and_built x ls m)
  build S ns (QOr at e ls) n = and_then (build S ns e n) (λ x m. tests_built S ns or_built x ls m)
  build S ns (QUnionExcept at e ls) n = and_then (build S ns e n) (λ x m. set_links_built S ns x ls m)
  build S ns (QCompare at s a b) n =
      as_test_part
      (and_then (and_then (build S ns a n) (λ x m. function_of x.0 x.1 m)) (λ f m. and_then (and_then (build S ns b m) (λ y k. function_of y.0 y.1 k)) (λ g k. compare_built s f g k)))
  build S ns (QExists at x r b) n =
      as_test_part (and_then (and_then (build S ns r n) (λ y m. function_of y.0 y.1 m))
      (λ f m. and_then (and_then (build S ((x, type_of_members (type_of S ns r)) ∷ ns) b m) (λ y k. predicate_of y.0 y.1 k)) (λ p k. quantified_built PEx p f k)))
  build S ns (QForAll at x r b) n =
      as_test_part (and_then (and_then (build S ns r n) (λ y m. function_of y.0 y.1 m))
      (λ f m. and_then (and_then (build S ((x, type_of_members (type_of S ns r)) ∷ ns) b m) (λ y k. predicate_of y.0 y.1 k)) (λ p k. quantified_built PFa p f k)))
  build S ns (QSelect at h rs w) n =
      as_function_part (few_ranges rs (ranges_built S ns rs (λ ms m. where_built S ms w m) (λ ms m. and_then (build S ms h m) (λ x k. function_of x.0 x.1 k)) n))

  -- what stands before an operand is made whole before it
  pub sets_built : Classes → Scope → Translated × ℕ → QueryLinks → ℕ → Building (Translated × ℕ)
  sets_built S ns x NoLinks n = Some (x, n)
  sets_built S ns x (Link at e ls) n =
      and_then (function_of x.0 x.1 n)
      (λ f m. and_then (and_then (build S ns e m) (λ y k. function_of y.0 y.1 k)) (λ g k. and_then (as_function_part (op_built FIsect f g k)) (λ z j. sets_built S ns z ls j)))

  pub tests_built : Classes → Scope → (PredTree × ℕ → PredTree × ℕ → ℕ → Building (PredTree × ℕ)) → Translated × ℕ → QueryLinks → ℕ → Building (Translated × ℕ)
  tests_built S ns join x NoLinks n = Some (x, n)
  tests_built S ns join x (Link at e ls) n =
      and_then (predicate_of x.0 x.1 n)
      (λ p m. and_then (and_then (build S ns e m) (λ y k. predicate_of y.0 y.1 k)) (λ q k. and_then (as_test_part (join p q k)) (λ z j. tests_built S ns join z ls j)))

  pub set_links_built : Classes → Scope → Translated × ℕ → SetLinks → ℕ → Building (Translated × ℕ)
  set_links_built S ns x NoSets n = Some (x, n)
  set_links_built S ns x (SetLink at b e ls) n =
      and_then (function_of x.0 x.1 n)
      (λ f m. and_then (and_then (build S ns e m) (λ y k. function_of y.0 y.1 k)) (λ g k. and_then (as_function_part (op_built (set_link_op b) f g k)) (λ z j. set_links_built S ns z ls j)))

  pub fields_built : Classes → Scope → QueryFields → ℕ → Building (FunTree × ℕ)
  fields_built S ns NoFields n = node FId 1 1 0 n
  fields_built S ns (QField l at e fs) n =
      and_then (and_then (build S ns e n) (λ x m. function_of x.0 x.1 m)) (λ f m. field_built f fs (λ k. fields_built S ns fs k) m)

  pub ranges_built : Classes → Scope → QueryRanges → (Scope → ℕ → Building (PredTree × ℕ)) → (Scope → ℕ → Building (FunTree × ℕ)) → ℕ → Building (FunTree × ℕ)
  ranges_built S ns NoRanges condition head n = head ns n
  ranges_built S ns (QRange x at r rs) condition head n =
      and_then (and_then (build S ns r n) (λ y m. function_of y.0 y.1 m))
      (λ f m. range_built rs f (condition ((x, type_of_members (type_of S ns r)) ∷ ns)) (head ((x, type_of_members (type_of S ns r)) ∷ ns))
      (λ k. ranges_built S ((x, type_of_members (type_of S ns r)) ∷ ns) rs condition head k) m)

  pub where_built : Classes → Scope → QueryWhere → ℕ → Building (PredTree × ℕ)
  where_built S ns NoWhere n = node (PKP true) 1 1 0 n
  where_built S ns (Where at e) n = and_then (build S ns e n) (λ x m. predicate_of x.0 x.1 m)

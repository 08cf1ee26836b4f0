-- The output type of a function at an input type, and whether a predicate is typed there.
use Rattle.std.specs.Prelude.{ℕ, Bool, true, false, cond, ◌&&◌, List, Option, Some, None, option_and_then, option_map}
use Rattle.kola_values.specs.Types.{TypeTree, TInt, TStr, TBool, TClass, TSet, TPair, same_type}
use Rattle.kola_values.specs.Databases.{Classes, attribute_type, extent_class, look_up}
use Rattle.kola_core.specs.Integers.{in_64}
use Rattle.kola_term.specs.Literals.{set_type}
use Rattle.kola_term.specs.Terms.{ConstTree, CInt, CBool, CStr, CSet, CExtent, CMeta, FunTree, FId, FFst, FSnd, FFlat, FUnion, FIsect, FMinus, FAttr, FComp, FPair, FTimes, FK, FC, FIf, FIterate, FIter, FJoin, FNest, FUnnest, FMeta, PredTree, PEq, PLt, PLe, PMember, PAt, PAnd, POr, PNot, PInv, PKP, PCP, PEx, PFa, PMeta}

pub data MetaTree : Type 0 where
  MFun : TypeTree → TypeTree → MetaTree
  MPred : TypeTree → MetaTree
  MConst : TypeTree → MetaTree

abbrev pub Context : Type 0
Context = List (List ℕ × MetaTree)

abbrev pub first_type : TypeTree → Option TypeTree
first_type (TPair t u) = Some t
first_type _ = None

abbrev pub second_type : TypeTree → Option TypeTree
second_type (TPair t u) = Some u
second_type _ = None

abbrev pub member_type : TypeTree → Option TypeTree
member_type (TSet t) = Some t
member_type _ = None

-- the type of a pair's halves, where they are the same
abbrev pub twin_type : TypeTree → Option TypeTree
twin_type (TPair t u) = cond (same_type t u) (Some t) None
twin_type _ = None

-- (T, set U) as (T, U)
abbrev pub iter_type : TypeTree → Option TypeTree
iter_type (TPair t (TSet u)) = Some (TPair t u)
iter_type _ = None

-- (set T, set U) as (T, U)
abbrev pub join_type : TypeTree → Option TypeTree
join_type (TPair (TSet t) (TSet u)) = Some (TPair t u)
join_type _ = None

abbrev pub the_if : Bool → Option TypeTree → Option TypeTree
the_if b o = cond b o None

abbrev pub fun_of : Option MetaTree → TypeTree → Option TypeTree
fun_of (Some (MFun t u)) x = cond (same_type t x) (Some u) None
fun_of _ x = None

abbrev pub pred_of : Option MetaTree → TypeTree → Bool
pred_of (Some (MPred t)) x = same_type t x
pred_of _ x = false

abbrev pub const_of : Option MetaTree → Option TypeTree
const_of (Some (MConst t)) = Some t
const_of _ = None

abbrev pub const_type : Classes → Context → ConstTree → Option TypeTree
const_type S x (CInt z) = the_if (in_64 z) (Some TInt)
const_type S x (CBool b) = Some TBool
const_type S x (CStr s) = Some TStr
const_type S x (CSet vs) = set_type vs
const_type S x (CExtent e) = option_map (λ c. TSet (TClass c)) (extent_class S e)
const_type S x (CMeta n) = const_of (look_up n x)

abbrev pub attr_at : Classes → List ℕ → TypeTree → Option TypeTree
attr_at S a (TClass c) = attribute_type S c a
attr_at S a _ = None

abbrev pub pair_of : Option TypeTree → Option TypeTree → Option TypeTree
pair_of o p = option_and_then (λ t. option_map (TPair t) p) o

-- the one type of both
abbrev pub one_of : Option TypeTree → Option TypeTree → Option TypeTree
one_of (Some t) (Some u) = cond (same_type t u) (Some t) None
one_of _ _ = None

abbrev pub nest_of : Option TypeTree → Option TypeTree → TypeTree → Option TypeTree
nest_of (Some t) (Some v) (TPair x u) = cond (same_type t u) (Some (TSet (TPair u (TSet v)))) None
nest_of _ _ _ = None

abbrev pub is_some_type : Option TypeTree → Bool
is_some_type (Some t) = true
is_some_type None = false

abbrev pub when : Option TypeTree → (TypeTree → Bool) → Bool
when (Some t) k = k t
when None k = false

abbrev mutual
  pub out : Classes → Context → FunTree → TypeTree → Option TypeTree
  out S x FId t = Some t
  out S x FFst t = first_type t
  out S x FSnd t = second_type t
  out S x FFlat t = option_map TSet (option_and_then member_type (member_type t))
  out S x FUnion t = option_map TSet (option_and_then member_type (twin_type t))
  out S x FIsect t = option_map TSet (option_and_then member_type (twin_type t))
  out S x FMinus t = option_map TSet (option_and_then member_type (twin_type t))
  out S x (FAttr a) t = attr_at S a t
  out S x (FComp f g) t = option_and_then (λ u. out S x f u) (out S x g t)
  out S x (FPair f g) t = pair_of (out S x f t) (out S x g t)
  out S x (FTimes f g) t = pair_of (option_and_then (λ u. out S x f u) (first_type t)) (option_and_then (λ u. out S x g u) (second_type t))
  out S x (FK c) t = const_type S x c
  out S x (FC f c) t = option_and_then (λ u. out S x f (TPair u t)) (const_type S x c)
  out S x (FIf p f g) t = the_if (is_typed S x p t) (one_of (out S x f t) (out S x g t))
  out S x (FIterate p f) t = option_and_then (λ u. the_if (is_typed S x p u) (option_map TSet (out S x f u))) (member_type t)
  out S x (FIter p f) t = option_and_then (λ u. the_if (is_typed S x p u) (option_map TSet (out S x f u))) (iter_type t)
  out S x (FJoin p f) t = option_and_then (λ u. the_if (is_typed S x p u) (option_map TSet (out S x f u))) (join_type t)
  out S x (FNest f g) t = option_and_then (λ w. option_and_then (λ u. nest_of (out S x f u) (out S x g u) w) (first_type w)) (join_type t)
  out S x (FUnnest f g) t = option_and_then (λ u. option_map TSet (pair_of (out S x f u) (option_and_then member_type (out S x g u)))) (member_type t)
  out S x (FMeta n) t = fun_of (look_up n x) t

  pub is_typed : Classes → Context → PredTree → TypeTree → Bool
  is_typed S x PEq t = is_some_type (twin_type t)
  is_typed S x PLt t = is_some_type (twin_type t)
  is_typed S x PLe t = is_some_type (twin_type t)
  is_typed S x PMember t = is_some_type (option_and_then twin_type (iter_type t))
  is_typed S x (PAt p f) t = when (out S x f t) (λ u. is_typed S x p u)
  is_typed S x (PAnd p q) t = is_typed S x p t && is_typed S x q t
  is_typed S x (POr p q) t = is_typed S x p t && is_typed S x q t
  is_typed S x (PNot p) t = is_typed S x p t
  is_typed S x (PInv p) t = when (pair_of (second_type t) (first_type t)) (λ u. is_typed S x p u)
  is_typed S x (PKP b) t = true
  is_typed S x (PCP p c) t = when (const_type S x c) (λ u. is_typed S x p (TPair u t))
  is_typed S x (PEx p) t = when (iter_type t) (λ u. is_typed S x p u)
  is_typed S x (PFa p) t = when (iter_type t) (λ u. is_typed S x p u)
  is_typed S x (PMeta n) t = pred_of (look_up n x) t

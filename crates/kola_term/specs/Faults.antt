-- When a term is fine or fits, and the first fault of typing it, as a relation.
use Rattle.std.specs.Prelude.{ℕ, suc, nat_le, Bool, true, false, cond, ◌≤◌, List, [], ◌∷◌, ◌++◌, Option, Some, None, option_and_then, ◌≡◌}
use Rattle.kola_values.specs.Types.{TypeTree, TClass, same_type, type_nodes}
use Rattle.kola_values.specs.Databases.{Classes, attribute_type, extent_class, look_up}
use Rattle.kola_core.specs.Integers.{in_64}
use Rattle.kola_term.specs.Literals.{set_type}
use Rattle.kola_term.specs.Terms.{ConstTree, CInt, CBool, CStr, CSet, CExtent, CMeta, FunTree, FFst, FSnd, FFlat, FUnion, FIsect, FMinus, FAttr, FComp, FTimes, FC, FIf, FIterate, FIter, FJoin, FNest, FUnnest, FMeta, PEq, PLt, PLe, PMember, PAt, PInv, PCP, PEx, PFa, PMeta, TermTree, TermF, TermP, TermC}
use Rattle.kola_term.specs.Typing.{MetaTree, MFun, MPred, Context, out, is_typed, const_type, first_type, second_type, member_type, twin_type, iter_type, join_type, pair_of, one_of, const_of}
use Rattle.kola_term.specs.Places.{children, inputs, nth, flatten, sub_at, place}
use Rattle.kola_term.specs.Counts.{nodes, depth}
use Rattle.kola_term.specs.Limits.{type_limit, node_limit, depth_limit}

pub data TypeWhy : Type 0 where
  NotThisInput OutputsDiffer NoAttribute NoExtent WrongVariable TypeTooLarge : TypeWhy

unfoldable pub small : TypeTree → Bool
small t = nat_le (type_nodes t) type_limit

-- ---- part 1: the node and its own input type

abbrev pub lacks : {A : Type 0} → TypeWhy → Option A → Option TypeWhy
lacks why (Some a) = None
lacks why None = Some why

abbrev pub attr_own : Classes → List ℕ → TypeTree → Option TypeWhy
attr_own S a (TClass c) = lacks NoAttribute (attribute_type S c a)
attr_own S a _ = Some NotThisInput

abbrev pub unless : Bool → TypeWhy → Option TypeWhy
unless b why = cond b None (Some why)

abbrev pub fun_own : Option MetaTree → TypeTree → Option TypeWhy
fun_own (Some (MFun t u)) x = unless (same_type t x) NotThisInput
fun_own _ x = Some WrongVariable

abbrev pub pred_own : Option MetaTree → TypeTree → Option TypeWhy
pred_own (Some (MPred t)) x = unless (same_type t x) NotThisInput
pred_own _ x = Some WrongVariable

-- a number out of range and a list that is no set constant are no constants of the program: any cause serves
abbrev pub const_own : Classes → Context → ConstTree → Option TypeWhy
const_own S x (CInt z) = unless (in_64 z) NotThisInput
const_own S x (CBool b) = None
const_own S x (CStr s) = None
const_own S x (CSet vs) = lacks NotThisInput (set_type vs)
const_own S x (CExtent e) = lacks NoExtent (extent_class S e)
const_own S x (CMeta n) = lacks WrongVariable (const_of (look_up n x))

abbrev pub own : Classes → Context → TermTree → TypeTree → Option TypeWhy
own S x (TermF FFst) t = lacks NotThisInput (first_type t)
own S x (TermF FSnd) t = lacks NotThisInput (second_type t)
own S x (TermF FFlat) t = lacks NotThisInput (option_and_then member_type (member_type t))
own S x (TermF FUnion) t = lacks NotThisInput (option_and_then member_type (twin_type t))
own S x (TermF FIsect) t = lacks NotThisInput (option_and_then member_type (twin_type t))
own S x (TermF FMinus) t = lacks NotThisInput (option_and_then member_type (twin_type t))
own S x (TermF (FAttr a)) t = attr_own S a t
own S x (TermF (FTimes f g)) t = lacks NotThisInput (pair_of (first_type t) (second_type t))
own S x (TermF (FIterate p f)) t = lacks NotThisInput (member_type t)
own S x (TermF (FIter p f)) t = lacks NotThisInput (iter_type t)
own S x (TermF (FJoin p f)) t = lacks NotThisInput (join_type t)
own S x (TermF (FNest f g)) t = lacks NotThisInput (join_type t)
own S x (TermF (FUnnest f g)) t = lacks NotThisInput (member_type t)
own S x (TermF (FMeta n)) t = fun_own (look_up n x) t
own S x (TermP PEq) t = lacks NotThisInput (twin_type t)
own S x (TermP PLt) t = lacks NotThisInput (twin_type t)
own S x (TermP PLe) t = lacks NotThisInput (twin_type t)
own S x (TermP PMember) t = lacks NotThisInput (option_and_then twin_type (iter_type t))
own S x (TermP (PInv p)) t = lacks NotThisInput (pair_of (first_type t) (second_type t))
own S x (TermP (PEx p)) t = lacks NotThisInput (iter_type t)
own S x (TermP (PFa p)) t = lacks NotThisInput (iter_type t)
own S x (TermP (PMeta n)) t = pred_own (look_up n x) t
own S x (TermC c) t = const_own S x c
own S x _ t = None

-- ---- part 2: the order of the children, by their numbers

abbrev pub numbers : ℕ → List TermTree → List ℕ
numbers n [] = []
numbers n (c ∷ cs) = n ∷ numbers (suc n) cs

abbrev pub order : TermTree → List ℕ
order (TermF (FComp f g)) = 2 ∷ 1 ∷ []
order (TermF (FC f c)) = 2 ∷ 1 ∷ []
order (TermP (PAt p f)) = 2 ∷ 1 ∷ []
order (TermP (PCP p c)) = 2 ∷ 1 ∷ []
order t = numbers 1 (children t)

-- ---- part 3: the outputs of the children

abbrev pub outputs : Classes → Context → TermTree → TypeTree → Option TypeWhy
outputs S x (TermF (FIf p f g)) t = lacks OutputsDiffer (one_of (out S x f t) (out S x g t))
outputs S x (TermF (FNest f g)) t = lacks OutputsDiffer (option_and_then (λ w. option_and_then (λ u. one_of (out S x f u) (second_type w)) (first_type w)) (join_type t))
outputs S x (TermF (FUnnest f g)) t = lacks OutputsDiffer (option_and_then (λ u. option_and_then member_type (out S x g u)) (member_type t))
outputs S x _ t = None

-- ---- the relation

-- no function has a large output type at its place
abbrev pub Small : Classes → Context → TermTree → TypeTree → Type 0
Small S x t T = (q : List ℕ) (f : FunTree) (w u : TypeTree) → sub_at t q ≡ Some (TermF f) → place S x t T q ≡ Some w → out S x f w ≡ Some u → small u ≡ true

-- typed, with this output type, and small everywhere
abbrev pub Fine : Classes → Context → TermTree → TypeTree → TypeTree → Type 0
Fine S x (TermF f) t u = (out S x f t ≡ Some u) × Small S x (TermF f) t
Fine S x (TermP p) t u = (is_typed S x p t ≡ true) × Small S x (TermP p) t
Fine S x (TermC c) t u = const_type S x c ≡ Some u

-- fine, and of no more nodes and no greater depth than the limits
pub record Fits (S : Classes) (x : Context) (t : TermTree) (T u : TypeTree) : Type 0 where
  pub few : nodes t ≤ node_limit
  pub shallow : depth t ≤ depth_limit
  pub fine : Fine S x t T u

pub record ChildFine (S : Classes) (x : Context) (t : TermTree) (T : TypeTree) (n : ℕ) : Type 0 where
  pub c : TermTree
  pub w : TypeTree
  pub u : TypeTree
  pub is : nth n (children t) ≡ Some c
  pub input : flatten (nth n (inputs S x t T)) ≡ Some w
  pub fine : Fine S x c w u

abbrev pub AllFine : Classes → Context → TermTree → TypeTree → List ℕ → Type 0
AllFine S x t T [] = Unit {0}
AllFine S x t T (n ∷ ns) = ChildFine S x t T n × AllFine S x t T ns

-- the first fault: its path and its cause
pub data FaultAt (S : Classes) (x : Context) : TermTree → TypeTree → List ℕ → TypeWhy → Type 0 where
  f_own : {t : TermTree} {T : TypeTree} {why : TypeWhy} → own S x t T ≡ Some why → FaultAt S x t T [] why
  f_child : {t c : TermTree} {T w : TypeTree} {q : List ℕ} {why : TypeWhy} (before : List ℕ) (n : ℕ) (after : List ℕ) → own S x t T ≡ None → order t ≡ before ++ (n ∷ after) → AllFine S x t T before
      → nth n (children t) ≡ Some c → flatten (nth n (inputs S x t T)) ≡ Some w → FaultAt S x c w q why → FaultAt S x t T (n ∷ q) why
  f_outputs : {t : TermTree} {T : TypeTree} {why : TypeWhy} → own S x t T ≡ None → AllFine S x t T (order t) → outputs S x t T ≡ Some why → FaultAt S x t T [] why
  f_large : {f : FunTree} {T u : TypeTree} → own S x (TermF f) T ≡ None → AllFine S x (TermF f) T (order (TermF f)) → outputs S x (TermF f) T ≡ None → out S x f T ≡ Some u → small u ≡ false → FaultAt S x (TermF f) T [] TypeTooLarge

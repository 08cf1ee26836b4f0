-- The typing without the limit answers the output type, and whether a predicate is typed.
use Rattle.std.proofs.Common.{◌≡◌, ℕ, Bool, true, false, cond, ◌&&◌, Option, Some, None, refl, sym, ap, ◌∙◌, option_and_then, option_map, List, Ok, Err}
use Rattle.kola_values.specs.Types.{TypeTree, TInt, TBool, TClass, TSet, TPair, same_type}
use Rattle.kola_values.specs.Databases.{Classes, attribute_type, extent_class, look_up}
use Rattle.kola_core.specs.Integers.{in_64}
use Rattle.kola_term.specs.Literals.{set_type}
use Rattle.kola_term.specs.Terms.{ConstTree, CInt, CBool, CStr, CSet, CExtent, CMeta, FunTree, FId, FFst, FSnd, FFlat, FUnion, FIsect, FMinus, FAttr, FComp, FPair, FTimes, FK, FC, FIf, FIterate, FIter, FJoin, FNest, FUnnest, FMeta, PredTree, PEq, PLt, PLe, PMember, PAt, PAnd, POr, PNot, PInv, PKP, PCP, PEx, PFa, PMeta}
use Rattle.kola_term.specs.Typing.{MetaTree, MFun, MPred, Context, out, is_typed, const_type, first_type, second_type, member_type, twin_type, iter_type, join_type, the_if, pair_of, one_of, nest_of, when, is_some_type, attr_at, fun_of, pred_of, const_of}
use Rattle.kola_term.specs.Faults.{TypeWhy, NotThisInput, NoAttribute, NoExtent, WrongVariable, lacks, unless, attr_own, fun_own, pred_own}
use Rattle.kola_term.proofs.Inversions.{same_ty-equal}
use Rattle.kola_term.specs.Judging.{Checked, under, and_then, kid, sized, given, leaf, no_size, when_same, consting, set_out, typing, checking}

-- the type of an answer, and whether it has one
abbrev pub type_in : Checked → Option TypeTree
type_in (Ok u) = Some u
type_in (Err e) = None

abbrev pub has_type : Checked → Bool
has_type (Ok u) = true
has_type (Err e) = false

-- ---- the steps

in_under : (n : ℕ) (r : Checked) → type_in (under n r) ≡ type_in r
in_under n (Ok u) = refl
in_under n (Err e) = refl

has_under : (n : ℕ) (r : Checked) → has_type (under n r) ≡ has_type r
has_under n (Ok u) = refl
has_under n (Err e) = refl

in_kid : (n : ℕ) (r : Checked) (k : TypeTree → Checked) → type_in (kid n r k) ≡ option_and_then (λ u. type_in (k u)) (type_in r)
in_kid n (Ok u) k = refl
in_kid n (Err e) k = refl

has_kid : (n : ℕ) (r : Checked) (k : TypeTree → Checked) → has_type (kid n r k) ≡ when (type_in r) (λ u. has_type (k u))
has_kid n (Ok u) k = refl
has_kid n (Err e) k = refl

has_two : (n : ℕ) (r q : Checked) → has_type (kid n r (λ _. q)) ≡ (has_type r && has_type q)
has_two n (Ok u) q = refl
has_two n (Err e) q = refl

in_given : (o : Option TypeTree) (k : TypeTree → Checked) → type_in (and_then (given o) k) ≡ option_and_then (λ u. type_in (k u)) o
in_given (Some u) k = refl
in_given None k = refl

has_given : (o : Option TypeTree) (k : TypeTree → Checked) → has_type (and_then (given o) k) ≡ when o (λ u. has_type (k u))
has_given (Some u) k = refl
has_given None k = refl

in_pair : (p q : Checked) → type_in (kid 1 p (λ u. kid 2 q (λ v. sized false (TPair u v)))) ≡ pair_of (type_in p) (type_in q)
in_pair (Ok u) (Ok v) = refl
in_pair (Ok u) (Err e) = refl
in_pair (Err e) q = refl

in_set_over : (p q : Checked) → type_in (kid 1 p (λ _. kid 2 q (λ u. sized false (TSet u)))) ≡ the_if (has_type p) (option_map TSet (type_in q))
in_set_over (Ok u) (Ok v) = refl
in_set_over (Ok u) (Err e) = refl
in_set_over (Err e) q = refl

in_over : (p q : Checked) (b : Bool) (o : Option TypeTree) → has_type p ≡ b → type_in q ≡ o → type_in (kid 1 p (λ _. kid 2 q (λ u. sized false (TSet u)))) ≡ the_if b (option_map TSet o)
in_over p q b o e h = in_set_over p q ∙ (λ i. the_if (e i) (option_map TSet (h i)))

in_same : (b : Bool) (u : TypeTree) → type_in (when_same b (Ok u)) ≡ cond b (Some u) None
in_same true u = refl
in_same false u = refl

in_if : (c p q : Checked) → type_in (kid 1 c (λ _. kid 2 p (λ u. kid 3 q (λ v. when_same (same_type u v) (Ok u))))) ≡ the_if (has_type c) (one_of (type_in p) (type_in q))
in_if (Ok w) (Ok u) (Ok v) = in_same (same_type u v) u
in_if (Ok w) (Ok u) (Err e) = refl
in_if (Ok w) (Err e) q = refl
in_if (Err e) p q = refl

nest_same : (u b v : TypeTree) (c : Bool) → (c ≡ true → u ≡ b) → type_in (when_same c (sized false (TSet (TPair u (TSet v))))) ≡ cond c (Some (TSet (TPair b (TSet v)))) None
nest_same u b v true h = ap (λ z. Some (TSet (TPair z (TSet v)))) (h refl)
nest_same u b v false h = refl

in_nest : (p q : Checked) (a b : TypeTree) → type_in (kid 1 p (λ u. kid 2 q (λ v. when_same (same_type u b) (sized false (TSet (TPair u (TSet v))))))) ≡ nest_of (type_in p) (type_in q) (TPair a b)
in_nest (Ok u) (Ok v) a b = nest_same u b v (same_type u b) (same_ty-equal u b)
in_nest (Ok u) (Err e) a b = refl
in_nest (Err e) q a b = refl

in_unnest : (p q : Checked) → type_in (kid 1 p (λ u. kid 2 q (λ v. set_out v (λ z. sized false (TSet (TPair u z)))))) ≡ option_map TSet (pair_of (type_in p) (option_and_then member_type (type_in q)))
in_unnest (Ok u) (Ok (TSet z)) = refl
in_unnest (Ok u) (Ok _) = refl
in_unnest (Ok u) (Err e) = refl
in_unnest (Err e) q = refl

in_lacks : {A : Type 0} (why : TypeWhy) (o : Option A) (p : Option TypeTree) → (o ≡ None → p ≡ None) → type_in (no_size (lacks why o) p) ≡ p
in_lacks why (Some a) (Some t) h = refl
in_lacks why (Some a) None h = refl
in_lacks why None p h = sym (h refl)

has_lacks : (why : TypeWhy) (o : Option TypeTree) → has_type (no_size (lacks why o) (Some TBool)) ≡ is_some_type o
has_lacks why (Some t) = refl
has_lacks why None = refl

in_out : (o : Option TypeTree) → option_and_then (λ u. type_in (sized false u)) o ≡ o
in_out (Some u) = refl
in_out None = refl

module _ (S : Classes) (x : Context) where
  -- ---- leaves and constants

  in_attr : (a : List ℕ) (t : TypeTree) → type_in (leaf false (attr_own S a t) (attr_at S a t)) ≡ attr_at S a t
  in_attr a (TClass c) = at (attribute_type S c a)
    where
      at : (o : Option TypeTree) → type_in (leaf false (lacks NoAttribute o) o) ≡ o
      at (Some u) = refl
      at None = refl
  in_attr a _ = refl

  in_meta : (o : Option MetaTree) (t : TypeTree) → type_in (leaf false (fun_own o t) (fun_of o t)) ≡ fun_of o t
  in_meta (Some (MFun a b)) t = at (same_type a t)
    where
      at : (c : Bool) → type_in (leaf false (unless c NotThisInput) (cond c (Some b) None)) ≡ cond c (Some b) None
      at true = refl
      at false = refl
  in_meta _ t = refl

  has_meta : (o : Option MetaTree) (t : TypeTree) → has_type (no_size (pred_own o t) (Some TBool)) ≡ pred_of o t
  has_meta (Some (MPred a)) t = at (same_type a t)
    where
      at : (c : Bool) → has_type (no_size (unless c NotThisInput) (Some TBool)) ≡ c
      at true = refl
      at false = refl
  has_meta _ t = refl

  pub in_const : (c : ConstTree) → type_in (consting S x c) ≡ const_type S x c
  in_const (CInt z) = at (in_64 z)
    where
      at : (b : Bool) → type_in (no_size (unless b NotThisInput) (the_if b (Some TInt))) ≡ the_if b (Some TInt)
      at true = refl
      at false = refl
  in_const (CBool b) = refl
  in_const (CStr s) = refl
  in_const (CSet vs) = in_lacks NotThisInput (set_type vs) (set_type vs) (λ e. e)
  in_const (CExtent n) = in_lacks NoExtent (extent_class S n) (option_map (λ c. TSet (TClass c)) (extent_class S n)) (λ e. ap (option_map (λ c. TSet (TClass c))) e)
  in_const (CMeta n) = in_lacks WrongVariable (const_of (look_up n x)) (const_of (look_up n x)) (λ e. e)

  -- ---- the nodes

  mutual
    pub in_typing : (f : FunTree) (t : TypeTree) → type_in (typing S x false f t) ≡ out S x f t
    in_typing (FComp f g) t =
        in_kid 2 (typing S x false g t) (λ u. under 1 (typing S x false f u))
        ∙ (λ i. option_and_then (λ u. (in_under 1 (typing S x false f u) ∙ in_typing f u) i) (in_typing g t i))
    in_typing (FPair f g) t = in_pair (typing S x false f t) (typing S x false g t) ∙ (λ i. pair_of (in_typing f t i) (in_typing g t i))
    in_typing (FTimes f g) (TPair a b) = in_pair (typing S x false f a) (typing S x false g b) ∙ (λ i. pair_of (in_typing f a i) (in_typing g b i))
    in_typing (FTimes f g) _ = refl
    in_typing (FK c) t = in_kid 1 (consting S x c) (sized false) ∙ in_out (type_in (consting S x c)) ∙ in_const c
    in_typing (FC f c) t =
        in_kid 2 (consting S x c) (λ u. under 1 (typing S x false f (TPair u t)))
        ∙ (λ i. option_and_then (λ u. (in_under 1 (typing S x false f (TPair u t)) ∙ in_typing f (TPair u t)) i) (in_const c i))
    in_typing (FIf p f g) t =
        in_if (checking S x false p t) (typing S x false f t) (typing S x false g t)
        ∙ (λ i. the_if (has_checking p t i) (one_of (in_typing f t i) (in_typing g t i)))
    in_typing (FIterate p f) t = in_given (member_type t) _ ∙ (λ i. option_and_then (λ m. in_over (checking S x false p m) (typing S x false f m) (is_typed S x p m) (out S x f m) (has_checking p m) (in_typing f m) i) (member_type t))
    in_typing (FIter p f) t = in_given (iter_type t) _ ∙ (λ i. option_and_then (λ m. in_over (checking S x false p m) (typing S x false f m) (is_typed S x p m) (out S x f m) (has_checking p m) (in_typing f m) i) (iter_type t))
    in_typing (FJoin p f) t = in_given (join_type t) _ ∙ (λ i. option_and_then (λ m. in_over (checking S x false p m) (typing S x false f m) (is_typed S x p m) (out S x f m) (has_checking p m) (in_typing f m) i) (join_type t))
    in_typing (FNest f g) (TPair (TSet a) (TSet b)) = in_nest (typing S x false f a) (typing S x false g a) a b ∙ (λ i. nest_of (in_typing f a i) (in_typing g a i) (TPair a b))
    in_typing (FNest f g) _ = refl
    in_typing (FUnnest f g) (TSet m) = in_unnest (typing S x false f m) (typing S x false g m) ∙ (λ i. option_map TSet (pair_of (in_typing f m i) (option_and_then member_type (in_typing g m i))))
    in_typing (FUnnest f g) _ = refl
    in_typing (FAttr a) t = in_attr a t
    in_typing (FMeta n) t = in_meta (look_up n x) t
    in_typing FId t = refl
    in_typing FFst t = in_given (first_type t) (sized false) ∙ in_out (first_type t)
    in_typing FSnd t = in_given (second_type t) (sized false) ∙ in_out (second_type t)
    in_typing FFlat t = in_given (out S x FFlat t) (sized false) ∙ in_out (out S x FFlat t)
    in_typing FUnion t = in_given (out S x FUnion t) (sized false) ∙ in_out (out S x FUnion t)
    in_typing FIsect t = in_given (out S x FIsect t) (sized false) ∙ in_out (out S x FIsect t)
    in_typing FMinus t = in_given (out S x FMinus t) (sized false) ∙ in_out (out S x FMinus t)

    pub has_checking : (p : PredTree) (t : TypeTree) → has_type (checking S x false p t) ≡ is_typed S x p t
    has_checking (PAt p f) t =
        has_kid 2 (typing S x false f t) (λ u. under 1 (checking S x false p u))
        ∙ (λ i. when (in_typing f t i) (λ u. (has_under 1 (checking S x false p u) ∙ has_checking p u) i))
    has_checking (PAnd p q) t = has_two 1 (checking S x false p t) (under 2 (checking S x false q t)) ∙ (λ i. has_checking p t i && (has_under 2 (checking S x false q t) ∙ has_checking q t) i)
    has_checking (POr p q) t = has_two 1 (checking S x false p t) (under 2 (checking S x false q t)) ∙ (λ i. has_checking p t i && (has_under 2 (checking S x false q t) ∙ has_checking q t) i)
    has_checking (PNot p) t = has_under 1 (checking S x false p t) ∙ has_checking p t
    has_checking (PInv p) t = has_given (pair_of (second_type t) (first_type t)) (λ m. under 1 (checking S x false p m)) ∙ (λ i. when (pair_of (second_type t) (first_type t)) (λ m. (has_under 1 (checking S x false p m) ∙ has_checking p m) i))
    has_checking (PCP p c) t =
        has_kid 2 (consting S x c) (λ u. under 1 (checking S x false p (TPair u t)))
        ∙ (λ i. when (in_const c i) (λ u. (has_under 1 (checking S x false p (TPair u t)) ∙ has_checking p (TPair u t)) i))
    has_checking (PEx p) t = has_given (iter_type t) (λ m. under 1 (checking S x false p m)) ∙ (λ i. when (iter_type t) (λ m. (has_under 1 (checking S x false p m) ∙ has_checking p m) i))
    has_checking (PFa p) t = has_given (iter_type t) (λ m. under 1 (checking S x false p m)) ∙ (λ i. when (iter_type t) (λ m. (has_under 1 (checking S x false p m) ∙ has_checking p m) i))
    has_checking PEq t = has_lacks NotThisInput (twin_type t)
    has_checking PLt t = has_lacks NotThisInput (twin_type t)
    has_checking PLe t = has_lacks NotThisInput (twin_type t)
    has_checking PMember t = has_lacks NotThisInput (option_and_then twin_type (iter_type t))
    has_checking (PKP b) t = refl
    has_checking (PMeta n) t = has_meta (look_up n x) t

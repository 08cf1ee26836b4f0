-- The typing of a term as the program goes about it, with the limit on sizes or without. That its answers are those of `Fine` and `FaultAt`, or of `out`, is proved.
use Rattle.std.specs.Prelude.{ℕ, Bool, true, false, cond, List, [], ◌∷◌, Option, Some, None, Result, Ok, Err}
use Rattle.kola_values.specs.Types.{TypeTree, TBool, TSet, TPair, same_type}
use Rattle.kola_values.specs.Databases.{Classes, look_up}
use Rattle.kola_term.specs.Terms.{ConstTree, FunTree, FAttr, FComp, FPair, FTimes, FK, FC, FIf, FIterate, FIter, FJoin, FNest, FUnnest, FMeta, PredTree, PAt, PAnd, POr, PNot, PInv, PCP, PEx, PFa, TermTree, TermF, TermP, TermC}
use Rattle.kola_term.specs.Typing.{Context, out, const_type, first_type, second_type, member_type, iter_type, join_type, pair_of, attr_at, fun_of}
use Rattle.kola_term.specs.Faults.{TypeWhy, NotThisInput, OutputsDiffer, TypeTooLarge, small, attr_own, fun_own, const_own, own, Fine, FaultAt}

abbrev pub Checked : Type 0
Checked = Result TypeTree (List ℕ × TypeWhy)

-- in the child of this number
abbrev pub under : ℕ → Checked → Checked
under n (Ok u) = Ok u
under n (Err e) = Err (n ∷ e.0, e.1)

abbrev pub and_then : Checked → (TypeTree → Checked) → Checked
and_then (Ok u) k = k u
and_then (Err e) k = Err e

abbrev pub kid : ℕ → Checked → (TypeTree → Checked) → Checked
kid n r k = and_then (under n r) k

abbrev pub refused : TypeWhy → Checked
refused why = Err ([], why)

-- under the limit where there is one
abbrev pub sized : Bool → TypeTree → Checked
sized true u = cond (small u) (Ok u) (refused TypeTooLarge)
sized false u = Ok u

abbrev pub given : Option TypeTree → Checked
given (Some u) = Ok u
given None = refused NotThisInput

abbrev pub leaf : Bool → Option TypeWhy → Option TypeTree → Checked
leaf l (Some why) o = refused why
leaf l None (Some u) = sized l u
leaf l None None = refused NotThisInput

abbrev pub no_size : Option TypeWhy → Option TypeTree → Checked
no_size (Some why) o = refused why
no_size None (Some u) = Ok u
no_size None None = refused NotThisInput

abbrev pub when_same : Bool → Checked → Checked
when_same b r = cond b r (refused OutputsDiffer)

abbrev pub consting : Classes → Context → ConstTree → Checked
consting S x c = no_size (const_own S x c) (const_type S x c)

abbrev pub on_pair : TypeTree → (TypeTree → TypeTree → Checked) → Checked
on_pair (TPair t u) k = k t u
on_pair _ k = refused NotThisInput

abbrev pub set_out : TypeTree → (TypeTree → Checked) → Checked
set_out (TSet t) k = k t
set_out _ k = refused OutputsDiffer

abbrev mutual
  pub typing : Classes → Context → Bool → FunTree → TypeTree → Checked
  typing S x l (FComp f g) t = kid 2 (typing S x l g t) (λ u. under 1 (typing S x l f u))
  typing S x l (FPair f g) t = kid 1 (typing S x l f t) (λ u. kid 2 (typing S x l g t) (λ v. sized l (TPair u v)))
  typing S x l (FTimes f g) t = on_pair t (λ a b. kid 1 (typing S x l f a) (λ u. kid 2 (typing S x l g b) (λ v. sized l (TPair u v))))
  typing S x l (FK c) t = kid 1 (consting S x c) (sized l)
  typing S x l (FC f c) t = kid 2 (consting S x c) (λ u. under 1 (typing S x l f (TPair u t)))
  typing S x l (FIf p f g) t = kid 1 (checking S x l p t) (λ _. kid 2 (typing S x l f t) (λ u. kid 3 (typing S x l g t) (λ v. when_same (same_type u v) (Ok u))))
  typing S x l (FIterate p f) t = and_then (given (member_type t)) (λ m. kid 1 (checking S x l p m) (λ _. kid 2 (typing S x l f m) (λ u. sized l (TSet u))))
  typing S x l (FIter p f) t = and_then (given (iter_type t)) (λ m. kid 1 (checking S x l p m) (λ _. kid 2 (typing S x l f m) (λ u. sized l (TSet u))))
  typing S x l (FJoin p f) t = and_then (given (join_type t)) (λ m. kid 1 (checking S x l p m) (λ _. kid 2 (typing S x l f m) (λ u. sized l (TSet u))))
  typing S x l (FNest f g) t = on_pair t (λ y z. and_then (given (member_type y)) (λ a. and_then (given (member_type z)) (λ b.
      kid 1 (typing S x l f a) (λ u. kid 2 (typing S x l g a) (λ v. when_same (same_type u b) (sized l (TSet (TPair u (TSet v)))))))))
  typing S x l (FUnnest f g) t = and_then (given (member_type t)) (λ m. kid 1 (typing S x l f m) (λ u. kid 2 (typing S x l g m) (λ v. set_out v (λ z. sized l (TSet (TPair u z))))))
  typing S x l (FAttr a) t = leaf l (attr_own S a t) (attr_at S a t)
  typing S x l (FMeta n) t = leaf l (fun_own (look_up n x) t) (fun_of (look_up n x) t)
  typing S x l f t = and_then (given (out S x f t)) (sized l)

  pub checking : Classes → Context → Bool → PredTree → TypeTree → Checked
  checking S x l (PAt p f) t = kid 2 (typing S x l f t) (λ u. under 1 (checking S x l p u))
  checking S x l (PAnd p q) t = kid 1 (checking S x l p t) (λ _. under 2 (checking S x l q t))
  checking S x l (POr p q) t = kid 1 (checking S x l p t) (λ _. under 2 (checking S x l q t))
  checking S x l (PNot p) t = under 1 (checking S x l p t)
  checking S x l (PInv p) t = and_then (given (pair_of (second_type t) (first_type t))) (λ m. under 1 (checking S x l p m))
  checking S x l (PCP p c) t = kid 2 (consting S x c) (λ u. under 1 (checking S x l p (TPair u t)))
  checking S x l (PEx p) t = and_then (given (iter_type t)) (λ m. under 1 (checking S x l p m))
  checking S x l (PFa p) t = and_then (given (iter_type t)) (λ m. under 1 (checking S x l p m))
  checking S x l p t = no_size (own S x (TermP p) t) (Some TBool)

-- with the limit
abbrev pub judged : Classes → Context → TermTree → TypeTree → Checked
judged S x (TermF f) t = typing S x true f t
judged S x (TermP p) t = checking S x true p t
judged S x (TermC c) t = consting S x c

-- what an answer says
abbrev pub Says : Classes → Context → TermTree → TypeTree → Checked → Type 0
Says S x t T (Ok u) = Fine S x t T u
Says S x t T (Err e) = FaultAt S x t T e.0 e.1

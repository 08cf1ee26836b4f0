-- The input type of a child by tests of its number is that of the definition, and what it says that a place has an input type.
use Rattle.std.proofs.Common.{◌≡◌, ℕ, zero, suc, ◌==◌, if◌then◌else◌, Option, Some, None, Ok, Err, Result, List, [], ◌∷◌, length, refl, sym, ◌∙◌, ap, subst, option_and_then, option_map, arith}
use Rattle.std.specs.Prelude.{◌↔◌, IfOk}
use Rattle.kola_values.specs.Types.{TypeTree, TPair}
use Rattle.kola_values.specs.Views.{type_tree}
use Rattle.kola_values.specs.Databases.{Classes}
use Rattle.kola_values.specs.declared.ty.Ty.{Ty}
use Rattle.kola_term.specs.Terms.{FComp, FPair, FTimes, FK, FC, FIf, FIterate, FIter, FJoin, FNest, FUnnest, PAt, PAnd, POr, PNot, PInv, PCP, PEx, PFa, TermTree, TermF, TermP, TermC}
use Rattle.kola_term.specs.Typing.{Context, out, const_type, first_type, second_type, member_type, iter_type, join_type, pair_of}
use Rattle.kola_term.specs.Places.{children, inputs, Typed, nth, flatten, sub_at, place}
use Rattle.kola_term.specs.PlaceAnswers.{IsConstant, UnlessMemory}
use Rattle.kola_term.specs.Inputs.{beside, child_input, at_node, IsInput}
use Rattle.kola_term.specs.Replacing.{IsAnswer}
use Rattle.kola_term.specs.declared.place.PlaceFault.{PlaceFault}
use Rattle.kola_term.specs.declared.place.PlaceFault.TheVariants as fault
use Rattle.kola_term.proofs.Introductions.{bind}
use Rattle.kola_term.proofs.Inversions.{some_same}
use Rattle.kola_term.proofs.Numbers.{test_apart}
use Rattle.kola_term.proofs.Paths.{parts_typed, nth_both}

one : {A B : Type 0} (n : ℕ) (a : A) (o : Option B) (c : A) → nth n (a ∷ []) ≡ Some c → flatten (nth n (o ∷ [])) ≡ o
one zero a o c e = absurd (cc)
one (suc zero) a o c e = refl
one (suc (suc n)) a o c e = absurd (cc)

two : {A B : Type 0} (n : ℕ) (a b : A) (o p : Option B) (c : A) → nth n (a ∷ b ∷ []) ≡ Some c → flatten (nth n (o ∷ p ∷ [])) ≡ (if n == 1 then o else p)
two zero a b o p c e = absurd (cc)
two (suc zero) a b o p c e = refl
two (suc (suc zero)) a b o p c e = sym (test_apart 2 1 o p (λ i. absurd (omega arith)))
two (suc (suc (suc n))) a b o p c e = absurd (cc)

both : {A B : Type 0} (n : ℕ) (a b : A) (o : Option B) (c : A) → nth n (a ∷ b ∷ []) ≡ Some c → flatten (nth n (o ∷ o ∷ [])) ≡ o
both zero a b o c e = absurd (cc)
both (suc zero) a b o c e = refl
both (suc (suc zero)) a b o c e = refl
both (suc (suc (suc n))) a b o c e = absurd (cc)

all_three : {A B : Type 0} (n : ℕ) (a b d : A) (o : Option B) (c : A) → nth n (a ∷ b ∷ d ∷ []) ≡ Some c → flatten (nth n (o ∷ o ∷ o ∷ [])) ≡ o
all_three zero a b d o c e = absurd (cc)
all_three (suc zero) a b d o c e = refl
all_three (suc (suc zero)) a b d o c e = refl
all_three (suc (suc (suc zero))) a b d o c e = refl
all_three (suc (suc (suc (suc n)))) a b d o c e = absurd (cc)

beside_is : (o : Option TypeTree) (u : TypeTree) → option_map (λ w. TPair w u) o ≡ beside o u
beside_is (Some w) u = refl
beside_is None u = refl

child_input_is : (S : Classes) (x : Context) (t : TermTree) (n : ℕ) (u : TypeTree) (c : TermTree) → nth n (children t) ≡ Some c → flatten (nth n (inputs S x t u)) ≡ child_input S x t n u
child_input_is S x (TermF (FComp f g)) n u c e = two n (TermF f) (TermF g) (out S x g u) (Some u) c e
child_input_is S x (TermF (FPair f g)) n u c e = both n (TermF f) (TermF g) (Some u) c e
child_input_is S x (TermF (FTimes f g)) n u c e = two n (TermF f) (TermF g) (first_type u) (second_type u) c e
child_input_is S x (TermF (FK k)) n u c e = one n (TermC k) (Some u) c e
child_input_is S x (TermF (FC f k)) n u c e =
    two n (TermF f) (TermC k) (option_map (λ w. TPair w u) (const_type S x k)) (Some u) c e ∙ ap (λ o. if n == 1 then o else Some u) (beside_is (const_type S x k) u)
child_input_is S x (TermF (FIf p f g)) n u c e = all_three n (TermP p) (TermF f) (TermF g) (Some u) c e
child_input_is S x (TermF (FIterate p f)) n u c e = both n (TermP p) (TermF f) (member_type u) c e
child_input_is S x (TermF (FIter p f)) n u c e = both n (TermP p) (TermF f) (iter_type u) c e
child_input_is S x (TermF (FJoin p f)) n u c e = both n (TermP p) (TermF f) (join_type u) c e
child_input_is S x (TermF (FNest f g)) n u c e = both n (TermF f) (TermF g) (option_and_then first_type (join_type u)) c e
child_input_is S x (TermF (FUnnest f g)) n u c e = both n (TermF f) (TermF g) (member_type u) c e
child_input_is S x (TermP (PAt p f)) n u c e = two n (TermP p) (TermF f) (out S x f u) (Some u) c e
child_input_is S x (TermP (PAnd p q)) n u c e = both n (TermP p) (TermP q) (Some u) c e
child_input_is S x (TermP (POr p q)) n u c e = both n (TermP p) (TermP q) (Some u) c e
child_input_is S x (TermP (PNot p)) n u c e = one n (TermP p) (Some u) c e
child_input_is S x (TermP (PInv p)) n u c e = one n (TermP p) (pair_of (second_type u) (first_type u)) c e
child_input_is S x (TermP (PCP p k)) n u c e =
    two n (TermP p) (TermC k) (option_map (λ w. TPair w u) (const_type S x k)) (Some u) c e ∙ ap (λ o. if n == 1 then o else Some u) (beside_is (const_type S x k) u)
child_input_is S x (TermP (PEx p)) n u c e = one n (TermP p) (iter_type u) c e
child_input_is S x (TermP (PFa p)) n u c e = one n (TermP p) (iter_type u) c e
child_input_is S x _ n u c e = absurd (cc)

-- ---- along a path

pub child_typed : (S : Classes) (x : Context) (t : TermTree) (n : ℕ) (u : TypeTree) (c : TermTree) (w : TypeTree) → Typed S x t u → nth n (children t) ≡ Some c → child_input S x t n u ≡ Some w → Typed S x c w
child_typed S x t n u c w h i e =
    let b = nth_both S x n (inputs S x t u) (children t) c (parts_typed S x t u h) i in
    subst (λ z. Typed S x c z) (some_same b.0 w (sym b.1 ∙ child_input_is S x t n u c i ∙ e)) b.2

pub child_has_input : (S : Classes) (x : Context) (t : TermTree) (n : ℕ) (u : TypeTree) (c : TermTree) → Typed S x t u → nth n (children t) ≡ Some c → child_input S x t n u ≡ None → ⊥
child_has_input S x t n u c h i e =
    let b = nth_both S x n (inputs S x t u) (children t) c (parts_typed S x t u h) i in
    let k : Some b.0 ≡ None = sym b.1 ∙ child_input_is S x t n u c i ∙ e in
    cc

pub input_end : (S : Classes) (x : Context) (t : TermTree) (u : TypeTree) (q : List ℕ) (result : Result Ty PlaceFault) → length q ≡ 0 → IsAnswer type_tree result (at_node t u) → IsInput S x t u q result
input_end S x t u (n ∷ q) result e h = absurd (omega arith)
input_end S x t u [] result e h = ends t result h
  where
    fun_ends : (f : TermTree) → (IsConstant (Some f) → ⊥) → at_node f u ≡ Ok u → (r : Result Ty PlaceFault) → IsAnswer type_tree r (at_node f u) → IsInput S x f u [] r
    fun_ends f k i (Ok w) j = let d : u ≡ type_tree w = cc in record { part = f; is = refl; kind = k; input = ap Some d }
    fun_ends f k i (Err fault.NoSuchPath) j = absurd (cc)
    fun_ends f k i (Err fault.WrongKind) j = absurd (cc)
    fun_ends f k i (Err fault.Memory) j = tt

    ends : (z : TermTree) (r : Result Ty PlaceFault) → IsAnswer type_tree r (at_node z u) → IsInput S x z u [] r
    ends (TermF f) r j = fun_ends (TermF f) (λ k. k) refl r j
    ends (TermP p) r j = fun_ends (TermP p) (λ k. k) refl r j
    ends (TermC c) (Ok w) j = absurd (cc)
    ends (TermC c) (Err fault.NoSuchPath) j = absurd (cc)
    ends (TermC c) (Err fault.WrongKind) j = tt
    ends (TermC c) (Err fault.Memory) j = tt

pub input_step : (S : Classes) (x : Context) (t : TermTree) (n : ℕ) (u : TypeTree) (c : TermTree) (w : TypeTree) (q : List ℕ) (result : Result Ty PlaceFault) → nth n (children t) ≡ Some c → child_input S x t n u ≡ Some w → IsInput S x c w q result → IsInput S x t u (n ∷ q) result
input_step S x t n u c w q (Ok v) i e h = record {
  part = h.part;
  is = ap (option_and_then (λ z. sub_at z q)) i ∙ h.is;
  kind = h.kind;
  input = bind (λ z. option_and_then (λ y. place S x z y q) (flatten (nth n (inputs S x t u)))) (nth n (children t)) c (Some (type_tree v)) i
      (bind (λ y. place S x c y q) (flatten (nth n (inputs S x t u))) w (Some (type_tree v)) (child_input_is S x t n u c i ∙ e) h.input);
}
input_step S x t n u c w q (Err fault.NoSuchPath) i e h = ap (option_and_then (λ z. sub_at z q)) i ∙ h
input_step S x t n u c w q (Err fault.WrongKind) i e h = subst IsConstant (sym (ap (option_and_then (λ z. sub_at z q)) i)) h
input_step S x t n u c w q (Err fault.Memory) i e h = tt

-- ---- the whole term

pub input_is : (S : Classes) (x : Context) (t : TermTree) (u : TypeTree) (q : List ℕ) (result : Result Ty PlaceFault) → IsInput S x t u q result → IfOk result (λ w. place S x t u q ≡ Some (type_tree w))
input_is S x t u q (Ok w) h = h.input
input_is S x t u q (Err e) h = tt

pub input_no_such_path : (S : Classes) (x : Context) (t : TermTree) (u : TypeTree) (q : List ℕ) (result : Result Ty PlaceFault) → IsInput S x t u q result
    → UnlessMemory result ((result ≡ Err fault.NoSuchPath) ↔ (sub_at t q ≡ None))
input_no_such_path S x t u q (Ok w) h = (λ e. absurd (cc), λ e. absurd (cc (h.is)))
input_no_such_path S x t u q (Err fault.NoSuchPath) h = (λ e. h, λ e. refl)
input_no_such_path S x t u q (Err fault.WrongKind) h = (λ e. absurd (cc), λ e. absurd (subst IsConstant e h))
input_no_such_path S x t u q (Err fault.Memory) h = tt

pub input_wrong_kind : (S : Classes) (x : Context) (t : TermTree) (u : TypeTree) (q : List ℕ) (result : Result Ty PlaceFault) → IsInput S x t u q result
    → UnlessMemory result ((result ≡ Err fault.WrongKind) ↔ IsConstant (sub_at t q))
input_wrong_kind S x t u q (Ok w) h = (λ e. absurd (cc), λ k. absurd (h.kind (subst IsConstant h.is k)))
input_wrong_kind S x t u q (Err fault.NoSuchPath) h = (λ e. absurd (cc), λ k. absurd (subst IsConstant h k))
input_wrong_kind S x t u q (Err fault.WrongKind) h = (λ e. h, λ k. refl)
input_wrong_kind S x t u q (Err fault.Memory) h = tt

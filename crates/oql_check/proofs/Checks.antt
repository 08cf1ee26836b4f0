-- What an answer of the typing says of the parts and of the tests, and the other way round.
use Rattle.std.proofs.Common.{◌≡◌, ℕ, ◌<◌, nat_lt, Bool, true, false, not, List, [], ◌∷◌, length, Option, Some, None, Ok, Err, refl, sym, ap, subst, ◌∙◌, arith}
use Rattle.std.proofs.lemmas.Bool.Decides.{nat_tests}
use Rattle.kola_core.specs.Integers.{in_64}
use Rattle.kola_core.specs.NameLists.{is_listed}
use Rattle.kola_core.proofs.Integers.{in_range, is_in_range}
use Rattle.kola_values.specs.Types.{TypeTree, TInt, TStr, TBool, TSet, same_type}
use Rattle.kola_values.specs.Sets.{Each}
use Rattle.kola_values.proofs.SameTypes.{same_type_itself, same_type_equal}
use Rattle.oql_tree.specs.QueryTrees.{LitTree, LitInt, LitStr, LitBool}
use Rattle.oql_check.specs.declared.fault.CheckWhy.{CheckWhy}
use Rattle.oql_check.specs.declared.fault.CheckWhy.TheVariants as why
use Rattle.oql_check.specs.Limits.{small, field_limit}
use Rattle.oql_check.specs.QueryTypes.{Checked, and_then, provided, sized, set_at, bool_at, same_at, is_ordered, literal_type, alike, found, label_at, sets_type, bools_type, order_type, flat_type}
use Rattle.oql_check.specs.TypedQueries.{IsLiteral}

abbrev okay : {A : Type 0} → A → Checked A
okay a = Ok a

pub ok_same : {A : Type 0} {a b : A} → okay a ≡ okay b → a ≡ b
ok_same e = cc

pub then_ok : {A B : Type 0} (r : Checked A) (k : A → Checked B) (b : B) → and_then r k ≡ Ok b → (a : A) × (r ≡ Ok a) × (k a ≡ Ok b)
then_ok (Ok a) k b h = (a, refl, h)
then_ok (Err e) k b h = absurd (cc)

pub then_is : {A B : Type 0} (r : Checked A) (k : A → Checked B) (a : A) (x : Checked B) → r ≡ Ok a → k a ≡ x → and_then r k ≡ x
then_is r k a x e h = ap (λ s. and_then s k) e ∙ h

pub provided_ok : {A : Type 0} (t : Bool) (at : ℕ) (c : CheckWhy) (r : Checked A) (a : A) → provided t at c r ≡ Ok a → (t ≡ true) × (r ≡ Ok a)
provided_ok true at c r a h = (refl, h)
provided_ok false at c r a h = absurd (cc)

pub provided_is : {A : Type 0} (t : Bool) (at : ℕ) (c : CheckWhy) (r x : Checked A) → t ≡ true → r ≡ x → provided t at c r ≡ x
provided_is t at c r x e h = ap (λ b. provided b at c r) e ∙ h

-- ---- tests

pub sized_ok : (at : ℕ) (t u : TypeTree) → sized at t ≡ Ok u → (small t ≡ true) × (t ≡ u)
sized_ok at t u h = let p = provided_ok (small t) at why.TypeTooLarge (Ok t) u h in (p.0, ok_same p.1)

pub sized_is : (at : ℕ) (t : TypeTree) → small t ≡ true → sized at t ≡ Ok t
sized_is at t h = provided_is (small t) at why.TypeTooLarge (Ok t) (Ok t) h refl

pub set_ok : (at : ℕ) (t u : TypeTree) → set_at at t ≡ Ok u → t ≡ TSet u
set_ok at (TSet t) u h = ap TSet (ok_same h)
set_ok at _ u h = absurd (cc)

pub bool_ok : (at : ℕ) (t u : TypeTree) → bool_at at t ≡ Ok u → (t ≡ TBool) × (u ≡ TBool)
bool_ok at TBool u h = (refl, sym (ok_same h))
bool_ok at _ u h = absurd (cc)

pub same_ok : (at : ℕ) (t u r v : TypeTree) → same_at at t u r ≡ Ok v → (t ≡ u) × (r ≡ v)
same_ok at t u r v h = let p = provided_ok (same_type t u) at why.TypesDiffer (Ok r) v h in (same_type_equal t u p.0, ok_same p.1)

pub same_is : (at : ℕ) (t r : TypeTree) → same_at at t t r ≡ Ok r
same_is at t r = provided_is (same_type t t) at why.TypesDiffer (Ok r) (Ok r) (same_type_itself t) refl

pub found_ok : (at : ℕ) (o : Option TypeTree) (t : TypeTree) → found at o ≡ Ok t → o ≡ Some t
found_ok at (Some t) u h = ap Some (ok_same h)
found_ok at None u h = absurd (cc)

pub sets_ok : (at : ℕ) (t u v : TypeTree) → sets_type at t u ≡ Ok v → (m : TypeTree) × (t ≡ TSet m) × (u ≡ TSet m) × (v ≡ TSet m)
sets_ok at t u v h =
    let p = then_ok (set_at at t) (λ m. and_then (set_at at u) (λ n. same_at at m n (TSet m))) v h in
    let q = then_ok (set_at at u) (λ n. same_at at p.0 n (TSet p.0)) v p.2 in
    let r = same_ok at p.0 q.0 (TSet p.0) v q.2 in
    (p.0, set_ok at t p.0 p.1, set_ok at u q.0 q.1 ∙ ap TSet (sym r.0), sym r.1)

pub sets_is : (at : ℕ) (t : TypeTree) → sets_type at (TSet t) (TSet t) ≡ Ok (TSet t)
sets_is at t = same_is at t (TSet t)

pub bools_ok : (at : ℕ) (t u v : TypeTree) → bools_type at t u ≡ Ok v → (t ≡ TBool) × (u ≡ TBool) × (v ≡ TBool)
bools_ok at t u v h =
    let p = then_ok (bool_at at t) (λ _. bool_at at u) v h in
    let q = bool_ok at u v p.2 in
    ((bool_ok at t p.0 p.1).0, q.0, q.1)

pub order_ok : (at : ℕ) (t u v : TypeTree) → order_type at t u ≡ Ok v → (t ≡ u) × (is_ordered t ≡ true) × (TBool ≡ v)
order_ok at t u v h =
    let p = then_ok (same_at at t u TBool) (λ _. provided (is_ordered t) at why.NotOrdered (Ok TBool)) v h in
    let q = provided_ok (is_ordered t) at why.NotOrdered (Ok TBool) v p.2 in
    ((same_ok at t u TBool p.0 p.1).0, q.0, ok_same q.1)

pub order_is : (at : ℕ) (t : TypeTree) → is_ordered t ≡ true → order_type at t t ≡ Ok TBool
order_is at t h =
    then_is (same_at at t t TBool) (λ _. provided (is_ordered t) at why.NotOrdered (Ok TBool)) TBool (Ok TBool) (same_is at t TBool)
    (provided_is (is_ordered t) at why.NotOrdered (Ok TBool) (Ok TBool) h refl)

pub flat_ok : (at : ℕ) (t v : TypeTree) → flat_type at t ≡ Ok v → (m : TypeTree) × (t ≡ TSet (TSet m)) × (TSet m ≡ v)
flat_ok at t v h =
    let p = then_ok (set_at at t) (λ u. and_then (set_at at u) (λ w. Ok (TSet w))) v h in
    let q = then_ok (set_at at p.0) (λ w. Ok (TSet w)) v p.2 in
    (q.0, set_ok at t p.0 p.1 ∙ ap TSet (set_ok at p.0 q.0 q.1), ok_same q.2)

-- ---- labels of a struct

not_true : (b : Bool) → not b ≡ true → b ≡ false
not_true false h = refl
not_true true h = absurd (cc)

less : (m n : ℕ) → nat_lt m n ≡ true → m < n
less m n h = grind (arith, nat_tests)

is_less : (m n : ℕ) → m < n → nat_lt m n ≡ true
is_less m n h = grind (arith, nat_tests)

pub label_ok : (at : ℕ) (before : List (List ℕ)) (l : List ℕ) (u : Unit {0}) → label_at at before l ≡ Ok u → (is_listed l before ≡ false) × (length before < field_limit)
label_ok at before l u h =
    let p = provided_ok (not (is_listed l before)) at why.RepeatedLabel (provided (nat_lt (length before) field_limit) at why.TooManyFields (Ok tt)) u h in
    let q = provided_ok (nat_lt (length before) field_limit) at why.TooManyFields (Ok tt) u p.1 in
    (not_true (is_listed l before) p.0, less (length before) field_limit q.0)

pub label_is : (at : ℕ) (before : List (List ℕ)) (l : List ℕ) → is_listed l before ≡ false → length before < field_limit → label_at at before l ≡ Ok tt
label_is at before l n k =
    provided_is (not (is_listed l before)) at why.RepeatedLabel (provided (nat_lt (length before) field_limit) at why.TooManyFields (Ok tt)) (Ok tt) (ap not n)
    (provided_is (nat_lt (length before) field_limit) at why.TooManyFields (Ok tt) (Ok tt) (is_less (length before) field_limit k) refl)

-- ---- literals

pub literal_ok : (at : ℕ) (l : LitTree) (t : TypeTree) → literal_type at l ≡ Ok t → IsLiteral t l
literal_ok at (LitInt n) t h = let p = provided_ok (in_64 n) at why.TypesDiffer (Ok TInt) t h in subst (λ u. IsLiteral u (LitInt n)) (ok_same p.1) (is_in_range n p.0)
literal_ok at (LitStr s) t h = subst (λ u. IsLiteral u (LitStr s)) (ok_same h) tt
literal_ok at (LitBool b) t h = subst (λ u. IsLiteral u (LitBool b)) (ok_same h) tt

pub literal_is : (at : ℕ) (l : LitTree) (t : TypeTree) → IsLiteral t l → literal_type at l ≡ Ok t
literal_is at (LitInt n) TInt h = provided_is (in_64 n) at why.TypesDiffer (Ok TInt) (Ok TInt) (in_range n h) refl
literal_is at (LitStr s) TStr h = refl
literal_is at (LitBool b) TBool h = refl
literal_is at _ _ h = absurd h

pub alike_ok : (t : TypeTree) (ls : List (LitTree × ℕ)) (u : TypeTree) → alike t ls ≡ Ok u → (u ≡ t) × Each (λ (m : LitTree × ℕ). IsLiteral t m.0) ls
alike_ok t [] u h = (sym (ok_same h), tt)
alike_ok t (l ∷ ls) u h =
    let p = then_ok (literal_type l.1 l.0) (λ v. and_then (same_at l.1 t v t) (λ _. alike t ls)) u h in
    let q = then_ok (same_at l.1 t p.0 t) (λ _. alike t ls) u p.2 in
    let r = same_ok l.1 t p.0 t q.0 q.1 in
    let s = alike_ok t ls u q.2 in
    (s.0, (subst (λ v. IsLiteral v l.0) (sym r.0) (literal_ok l.1 l.0 p.0 p.1), s.1))

pub alike_is : (t : TypeTree) (ls : List (LitTree × ℕ)) → Each (λ (m : LitTree × ℕ). IsLiteral t m.0) ls → alike t ls ≡ Ok t
alike_is t [] h = refl
alike_is t (l ∷ ls) h =
    then_is (literal_type l.1 l.0) (λ v. and_then (same_at l.1 t v t) (λ _. alike t ls)) t (Ok t) (literal_is l.1 l.0 t h.0)
    (then_is (same_at l.1 t t t) (λ _. alike t ls) t (Ok t) (same_is l.1 t t) (alike_is t ls h.1))

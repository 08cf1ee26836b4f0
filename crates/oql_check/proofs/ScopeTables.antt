-- Scopes as they are kept: a name more, a variable more, a variable less, and a name that is looked up.
use Rattle.std.proofs.Common.{◌≡◌, ℕ, zero, suc, ◌+◌, ◌-◌, ◌<◌, ◌≤◌, ◌==◌, inl, inr, Bool, true, false, cond, not, ◌||◌, List, [], ◌∷◌, ◌++◌, Option, Some, None, length, get_or, set, reverse, drop, position, nat_lt, refl, sym, ap, subst, ◌∙◌, arith}
use Rattle.std.specs.List.{position_or_len, list_any}
use Rattle.std.specs.Str.{bytes_eq}
use Rattle.std.proofs.lemmas.Bool.{eqb-true, eq-eqb}
use Rattle.std.proofs.lemmas.Bool.Decides.{nat_tests, eqb_tells}
use Rattle.std.proofs.lemmas.List.{length-set, length-reverse, length_push, length-drop, drop-drop, reverse-append, get_or_append_left, get_or_at, get_or-set_same, get_or-set_other, get_or_read}
use Rattle.std.proofs.lemmas.List.Quantifiers.{position-Some}
use Rattle.std.proofs.lemmas.List.Sums.{position_or_len_is, fails_before_first}
use Rattle.kola_core.specs.NameLists.{with_name}
use Rattle.kola_core.proofs.NameLists.{with_new}
use Rattle.kola_values.specs.Databases.{look_up}
use Rattle.kola_values.specs.Types.{TypeTree}
use Rattle.kola_values.proofs.SameTypes.{name_itself, name_equal}
use Rattle.kola_values.proofs.Anys.{bool_same}
use Rattle.oql_check.specs.QueryTypes.{Scope}
use Rattle.oql_check.specs.ScopeTables.{name_at, named, newest_of, AreLinked, IsKept, IsGrown}
use Rattle.oql_check.specs.declared.scope.Variable.{Variable}

-- ---- places of names

first_place : (p : List ℕ → Bool) (ns : List (List ℕ)) (i : ℕ) → i < length ns → p (name_at ns i) ≡ true → ((k : ℕ) → k < i → p (name_at ns k) ≡ false) → position p ns ≡ Some i
first_place p ns i l h k =
    let e : position_or_len p ns ≡ i = position_or_len_is p ns i [] (omega arith) k (λ _. h) in
    let t : nat_lt i (length ns) ≡ true = grind (arith, nat_tests) in
    (λ j. cond (nat_lt (e j) (length ns)) (Some (e j)) None) ∙ ap (λ b. cond b (Some i) None) t

at_more : (ns : List (List ℕ)) (n : List ℕ) (k : ℕ) → k < length ns → name_at (ns ++ n ∷ []) k ≡ name_at ns k
at_more ns n k l = get_or_append_left ns (n ∷ []) [] k l

-- a place stays where a name is added
place_stays : (p : List ℕ → Bool) (ns : List (List ℕ)) (n : List ℕ) (i : ℕ) → position p ns ≡ Some i → position p (ns ++ n ∷ []) ≡ Some i
place_stays p ns n i e =
    let h = position-Some p ns i [] e in
    let m = length_push ns n in
    first_place p (ns ++ n ∷ []) i (omega (arith, h.0, m)) (ap p (at_more ns n i h.0) ∙ h.1)
    (λ k l. ap p (at_more ns n k (omega (arith, h.0, l))) ∙ h.2 k l)

no_place : (i n : ℕ) (b : Bool) → nat_lt i n ≡ b → cond b (Some i) None ≡ None → n ≤ i
no_place i n true e h = absurd (cc)
no_place i n false e h = grind (arith, nat_tests)

listed_step : (b : Bool) (i n : ℕ) (r : Bool) → nat_lt i n ≡ r → nat_lt (cond (not b) (1 + i) 0) (suc n) ≡ (b || r)
listed_step true i n r h = grind (arith, nat_tests)
listed_step false i n true h = grind (arith, nat_tests)
listed_step false i n false h = grind (arith, nat_tests)

before_end : (p : List ℕ → Bool) (ns : List (List ℕ)) → nat_lt (position_or_len p ns) (length ns) ≡ list_any p ns
before_end p [] = refl
before_end p (n ∷ ns) = listed_step (p n) (position_or_len p ns) (length ns) (list_any p ns) (before_end p ns)

without_place : (b : Bool) (i : ℕ) → cond b (Some i) None ≡ None → b ≡ false
without_place true i e = absurd (cc)
without_place false i e = refl

-- the table with a name that has no place in it
pub name_added : (ns ms : List (List ℕ)) (n t u : List ℕ) → t ≡ n → u ≡ n → position (bytes_eq t) ns ≡ None → ms ≡ with_name ns u → ms ≡ ns ++ n ∷ []
name_added ns ms n t u e f h g =
    let p = bytes_eq n in
    let q = without_place (nat_lt (position_or_len p ns) (length ns)) (position_or_len p ns) (ap (λ m. position (bytes_eq m) ns) (sym e) ∙ h) in
    g ∙ ap (with_name ns) f ∙ with_new ns n (sym (before_end p ns) ∙ q)

-- a name without a place gets the next one
pub next_place : (n : List ℕ) (ns : List (List ℕ)) → position (bytes_eq n) ns ≡ None → position (bytes_eq n) (ns ++ n ∷ []) ≡ Some (length ns)
next_place n ns e =
    let p = bytes_eq n in
    let past = no_place (position_or_len p ns) (length ns) (nat_lt (position_or_len p ns) (length ns)) refl e in
    let m = length_push ns n in
    first_place p (ns ++ n ∷ []) (length ns) (omega (arith, m)) (ap p (get_or_at ns n [] [] (length ns) refl) ∙ name_itself n)
    (λ k l. ap p (at_more ns n k l) ∙ fails_before_first p ns k [] (omega (arith, l, past)))

-- ---- a name more

none_more : (ls : List (Option ℕ)) (k : ℕ) → get_or (ls ++ None ∷ []) k None ≡ get_or ls k None
none_more [] zero = refl
none_more [] (suc k) = refl
none_more (l ∷ ls) zero = refl
none_more (l ∷ ls) (suc k) = none_more ls k

module _ (ns : List (List ℕ)) (n : List ℕ) where
  linked_more : (vs : List Variable) → AreLinked ns vs → AreLinked (ns ++ n ∷ []) vs
  linked_more [] h = tt
  linked_more (v ∷ vs) h =
      let l = (position-Some (bytes_eq (name_at ns v.name)) ns v.name [] h.0).0 in
      let p = place_stays (bytes_eq (name_at ns v.name)) ns n v.name h.0 in
      (subst (λ m. position (bytes_eq m) (ns ++ n ∷ []) ≡ Some v.name) (sym (at_more ns n v.name l)) p, h.1, linked_more vs h.2)

  named_more : (vs : List Variable) → AreLinked ns vs → named (ns ++ n ∷ []) vs ≡ named ns vs
  named_more [] h = refl
  named_more (v ∷ vs) h =
      let l = (position-Some (bytes_eq (name_at ns v.name)) ns v.name [] h.0).0 in
      λ j. (at_more ns n v.name l j, v.ty) ∷ named_more vs h.2 j

module _ (ns ms : List (List ℕ)) (ls ks : List (Option ℕ)) (vs : List Variable) (h : IsKept ns ls vs) where
  pub kept_grown : IsGrown ns ls ms ks → IsKept ms ks vs
  kept_grown (inl e) = subst (λ xs. IsKept xs ks vs) (sym e.0) (subst (λ xs. IsKept ns xs vs) (sym e.1) h)
  kept_grown (inr e) =
      let n = e.0 in
      let a = length_push ns n in
      let b = length_push ls None in
      let k : IsKept (ns ++ n ∷ []) (ls ++ None ∷ []) vs =
      (omega (arith, a, b, h.0), λ i. none_more ls i ∙ h.1 i, linked_more ns n vs h.2) in
      subst (λ xs. IsKept xs ks vs) (sym e.1) (subst (λ xs. IsKept (ns ++ n ∷ []) xs vs) (sym e.2) k)

  pub named_grown : IsGrown ns ls ms ks → named ms vs ≡ named ns vs
  named_grown (inl e) = ap (λ xs. named xs vs) e.0
  named_grown (inr e) = ap (λ xs. named xs vs) e.1 ∙ named_more ns e.0 vs h.2

-- ---- a variable more, a variable less

length_named : (ns : List (List ℕ)) (vs : List Variable) → length (named ns vs) ≡ length vs
length_named ns [] = refl
length_named ns (v ∷ vs) = ap suc (length_named ns vs)

pub as_many : (ns : List (List ℕ)) (xs : List Variable) (s : Scope) → named ns (reverse xs) ≡ s → length xs ≡ length s
as_many ns xs s e = sym (length_named ns (reverse xs) ∙ length-reverse xs) ∙ ap length e

pub one_less : (s : Scope) (k : ℕ) → k < length s → drop (length s - k) s ≡ drop (length (drop 1 s) - k) (drop 1 s)
one_less s k l =
    let m : 1 + (length s - 1 - k) ≡ length s - k = omega arith in
    sym (ap (λ n. drop (n - k) (drop 1 s)) (length-drop 1 s) ∙ drop-drop (length s - 1 - k) 1 s ∙ ap (λ n. drop n s) m)

pub newest_last : (xs : List Variable) (v : Variable) → reverse (xs ++ v ∷ []) ≡ v ∷ reverse xs
newest_last xs v = reverse-append xs (v ∷ [])

at_written : (ls : List (Option ℕ)) (i k : ℕ) (a : Option ℕ) → i < length ls → get_or (set ls i a) k None ≡ cond (k == i) a (get_or ls k None)
at_written ls i k a l = elim (eqb_tells k i) [
  | inl e ↦ subst (λ j. get_or (set ls i a) j None ≡ a) (sym e.1) (get_or-set_same ls i a None l) ∙ ap (λ b. cond b a (get_or ls k None)) (sym e.0)
  | inr e ↦ get_or-set_other ls i k a None e.1 ∙ ap (λ b. cond b a (get_or ls k None)) (sym e.0)
]

module _ (ns : List (List ℕ)) (ls : List (Option ℕ)) (vs : List Variable) where
  pub named_bound : (n : List ℕ) (v : Variable) → position (bytes_eq n) ns ≡ Some v.name → named ns (v ∷ vs) ≡ (n, v.ty) ∷ named ns vs
  named_bound n v e = ap (λ m. (m, v.ty) ∷ named ns vs) (sym (name_equal n (name_at ns v.name) (position-Some (bytes_eq n) ns v.name [] e).1))

  pub kept_bound : (n : List ℕ) (v : Variable) → IsKept ns ls vs → position (bytes_eq n) ns ≡ Some v.name → v.hidden ≡ get_or ls v.name None
      → IsKept ns (set ls v.name (Some (length vs))) (v ∷ vs)
  kept_bound n v h e k =
      let p = position-Some (bytes_eq n) ns v.name [] e in (
        length-set ls v.name (Some (length vs)) ∙ h.0,
        λ i. at_written ls v.name i (Some (length vs)) (omega (arith, p.0, h.0)) ∙ ap (cond (i == v.name) (Some (length vs))) (h.1 i),
        (subst (λ m. position (bytes_eq m) ns ≡ Some v.name) (name_equal n (name_at ns v.name) p.1) e, k ∙ h.1 v.name, h.2),
      )

below : (n k : ℕ) (b : Bool) (r : Option ℕ) → cond b (Some n) r ≡ Some k → (r ≡ Some k → k < n) → k < suc n
below n k true r e f = let h : n ≡ k = cc in omega (arith, h)
below n k false r e f = omega (arith, f e)

-- the place of a name's newest variable is one of the list
pub place_below : (vs : List Variable) (i k : ℕ) → newest_of vs i ≡ Some k → k < length vs
place_below [] i k e = absurd (cc)
place_below (v ∷ vs) i k e = below (length vs) k (i == v.name) (newest_of vs i) e (place_below vs i k)

-- ---- a name that is looked up

module _ (ns : List (List ℕ)) (n : List ℕ) where
  -- a variable of the name has the name's number
  is_number : (v : Variable) → position (bytes_eq (name_at ns v.name)) ns ≡ Some v.name → bytes_eq n (name_at ns v.name) ≡ true → position (bytes_eq n) ns ≡ Some v.name
  is_number v h e = ap (λ m. position (bytes_eq m) ns) (name_equal n (name_at ns v.name) e) ∙ h

  other_name : (b : Bool) (r : Option ℕ) (i : ℕ) → r ≡ None → (b ≡ true → r ≡ Some i) → b ≡ false
  other_name true r i e f = let h = f refl in absurd (cc)
  other_name false r i e f = refl

  pub not_found : (vs : List Variable) → AreLinked ns vs → position (bytes_eq n) ns ≡ None → look_up n (named ns vs) ≡ None
  not_found [] h e = refl
  not_found (v ∷ vs) h e =
      ap (λ b. cond b (Some v.ty) (look_up n (named ns vs))) (other_name (bytes_eq n (name_at ns v.name)) (position (bytes_eq n) ns) v.name e (is_number v h.0))
      ∙ not_found vs h.2 e

  module _ (i : ℕ) (e : position (bytes_eq n) ns ≡ Some i) where
    by_number : (v : Variable) → position (bytes_eq (name_at ns v.name)) ns ≡ Some v.name → bytes_eq n (name_at ns v.name) ≡ (i == v.name)
    by_number v h =
        let k : (i == v.name) ≡ true → bytes_eq n (name_at ns v.name) ≡ true = λ q. subst (λ j. bytes_eq n (name_at ns j) ≡ true) (eqb-true i v.name q) (position-Some (bytes_eq n) ns i [] e).1 in
        let l : bytes_eq n (name_at ns v.name) ≡ true → (i == v.name) ≡ true = λ q. let r : Some i ≡ Some v.name = sym e ∙ is_number v h q in eq-eqb i v.name (cc) in
        bool_same (bytes_eq n (name_at ns v.name)) (i == v.name) l k

    none_step : (b : Bool) (a : ℕ) (r : Option ℕ) (t : TypeTree) (q : Option TypeTree) → cond b (Some a) r ≡ None → (r ≡ None → q ≡ None) → cond b (Some t) q ≡ None
    none_step true a r t q h f = absurd (cc)
    none_step false a r t q h f = f h

    pub no_variable : (vs : List Variable) → AreLinked ns vs → newest_of vs i ≡ None → look_up n (named ns vs) ≡ None
    no_variable [] h k = refl
    no_variable (v ∷ vs) h k =
        ap (λ b. cond b (Some v.ty) (look_up n (named ns vs))) (by_number v h.0)
        ∙ none_step (i == v.name) (length vs) (newest_of vs i) v.ty (look_up n (named ns vs)) k (no_variable vs h.2)

    some_step : (b : Bool) (v x : Variable) (vs : List Variable) (k : ℕ) (q : Option TypeTree) → cond b (Some (length vs)) (newest_of vs i) ≡ Some k → x ≡ get_or (reverse vs ++ v ∷ []) k x
        → (newest_of vs i ≡ Some k → x ≡ get_or (reverse vs) k x → q ≡ Some x.ty) → cond b (Some v.ty) q ≡ Some x.ty
    some_step true v x vs k q h p f =
        let m : length vs ≡ k = cc in
        let o : x ≡ v = p ∙ get_or_at (reverse vs) v [] x k (length-reverse vs ∙ m) in
        ap (λ y. Some y.ty) (sym o)
    some_step false v x vs k q h p f =
        let l = place_below vs i k h in
        let m = length-reverse vs in
        f h (p ∙ get_or_append_left (reverse vs) (v ∷ []) x k (omega (arith, l, m)))

    pub variable_found : (vs : List Variable) (k : ℕ) (x : Variable) → AreLinked ns vs → newest_of vs i ≡ Some k → x ≡ get_or (reverse vs) k x → look_up n (named ns vs) ≡ Some x.ty
    variable_found [] k x h q p = absurd (cc)
    variable_found (v ∷ vs) k x h q p =
        ap (λ b. cond b (Some v.ty) (look_up n (named ns vs))) (by_number v h.0)
        ∙ some_step (i == v.name) v x vs k (look_up n (named ns vs)) q (p ∙ ap (λ l. get_or l k x) (reverse-append (v ∷ []) vs)) (variable_found vs k x h.2)

module _ (ns : List (List ℕ)) (ls : List (Option ℕ)) (vs : List Variable) (h : IsKept ns ls vs) (n : List ℕ) where
  pub number_below : (i : ℕ) → position (bytes_eq n) ns ≡ Some i → i < length ls
  number_below i e = let p = (position-Some (bytes_eq n) ns i [] e).0 in omega (arith, p, h.0)

  pub newest_read : (i : ℕ) (r : Option ℕ) → position (bytes_eq n) ns ≡ Some i → r ≡ get_or ls i r → newest_of vs i ≡ r
  newest_read i r e p = sym (get_or_read ls i r (number_below i e) p None ∙ h.1 i)

-- ---- the variables behind one that is bound

module _ (ns ms : List (List ℕ)) (ls ks : List (Option ℕ)) (xs ys : List Variable) (h : IsKept ns ls (reverse xs)) (g : IsGrown ns ls ms ks) (n : List ℕ) (v : Variable)
    (e : position (bytes_eq n) ms ≡ Some v.name) (p : v.hidden ≡ get_or ks v.name v.hidden) (y : ys ≡ xs ++ v ∷ []) where
  grown : IsKept ms ks (reverse xs)
  grown = kept_grown ns ms ls ks (reverse xs) h g

  behind_it : reverse ys ≡ v ∷ reverse xs
  behind_it = ap reverse y ∙ newest_last xs v

  pub bound_kept : (k : ℕ) → k ≡ length xs → IsKept ms (set ks v.name (Some k)) (reverse ys)
  bound_kept k q =
      let l = number_below ms ks (reverse xs) grown n v.name e in
      let m : length (reverse xs) ≡ k = length-reverse xs ∙ sym q in
      subst (IsKept ms (set ks v.name (Some k))) (sym behind_it)
      (subst (λ i. IsKept ms (set ks v.name (Some i)) (v ∷ reverse xs)) m (kept_bound ms ks (reverse xs) n v grown e (get_or_read ks v.name v.hidden l p None)))

  pub bound_named : named ms (reverse ys) ≡ (n, v.ty) ∷ named ns (reverse xs)
  bound_named =
      ap (named ms) behind_it ∙ named_bound ms ks (reverse xs) n v e
      ∙ ap (λ s. (n, v.ty) ∷ s) (named_grown ns ms ls ks (reverse xs) h g)

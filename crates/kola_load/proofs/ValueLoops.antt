-- Loops over the elements of an array, of which each writes a value or not, or has a reference to nothing or not.
use Rattle.std.proofs.Common.{◌≡◌, ℕ, ◌+◌, ◌<◌, ◌≤◌, Bool, ◌||◌, List, [], ◌∷◌, ◌++◌, Option, Some, None, length, get_or, map, flat_map, drop, option_map, sym, ap, ◌∙◌, arith, refl}
use Rattle.std.specs.List.{find}
use Rattle.std.specs.Option.{option_or}
use Rattle.std.proofs.lemmas.List.Folds.{find-append}
use Rattle.std.proofs.lemmas.List.{drop_all, drop_more, append_assoc, append-nil}
use Rattle.kola_core.proofs.Lists.{left_less, length_seen}
use Rattle.kola_values.specs.Values.{ValueTree}
use Rattle.kola_values.specs.Sets.{canon, any}
use Rattle.kola_values.proofs.Anys.{one_list, rising, any_canon, any_append}
use Rattle.kola_load.specs.Written.{whole}

-- ---- values

module _ {X A : Type 0} (q : X → Option A) (xs : List X) (i : ℕ) where
  -- the values so far, before those to come
  abbrev pub AreSoFar : List A → Type 0
  AreSoFar done = option_map (λ vs. done ++ vs) (whole (drop i (map q xs))) ≡ whole (map q xs)

  module _ (x : X) (p : i < length xs) (h : x ≡ get_or xs i x) (done : List A) (so_far : AreSoFar done) where
    pub none_written : q x ≡ None → whole (map q xs) ≡ None
    none_written n = sym so_far ∙ ap (λ l. option_map (λ vs. done ++ vs) (whole l)) (left_less q xs (map q xs) i x refl p h) ∙ ap (λ o. option_map (λ vs. done ++ vs) (whole (o ∷ drop (i + 1) (map q xs)))) n

    one_more : (w : A) (o : Option (List A)) → option_map (λ vs. (done ++ w ∷ []) ++ vs) o ≡ option_map (λ vs. done ++ vs) (option_map (λ vs. w ∷ vs) o)
    one_more w None = refl
    one_more w (Some vs) = ap Some (append_assoc done (w ∷ []) vs)

    pub one_written : (w : A) → q x ≡ Some w → option_map (λ vs. (done ++ w ∷ []) ++ vs) (whole (drop (i + 1) (map q xs))) ≡ whole (map q xs)
    one_written w e =
        one_more w (whole (drop (i + 1) (map q xs)))
        ∙ sym (ap (λ l. option_map (λ vs. done ++ vs) (whole l)) (left_less q xs (map q xs) i x refl p h) ∙ ap (λ o. option_map (λ vs. done ++ vs) (whole (o ∷ drop (i + 1) (map q xs)))) e)
        ∙ so_far

  pub all_written : (done : List A) → AreSoFar done → length xs ≤ i → whole (map q xs) ≡ Some done
  all_written done so_far p =
      let l = length_seen q xs (map q xs) refl in
      sym so_far ∙ ap (λ l. option_map (λ vs. done ++ vs) (whole l)) (drop_all i (map q xs) (omega arith)) ∙ ap Some (append-nil done)

-- what is gathered, once more
pub gathered_again : (vs : List ValueTree) → canon (canon vs) ≡ canon vs
gathered_again vs = one_list (canon (canon vs)) (canon vs) (rising (canon vs)) (rising vs) (λ q. any_canon q (canon vs))

-- what is gathered, and one more
pub gathered_more : (vs : List ValueTree) (v : ValueTree) → canon (canon vs ++ v ∷ []) ≡ canon (vs ++ v ∷ [])
gathered_more vs v =
    one_list (canon (canon vs ++ v ∷ [])) (canon (vs ++ v ∷ [])) (rising (canon vs ++ v ∷ [])) (rising (vs ++ v ∷ [])) (λ q.
    any_canon q (canon vs ++ v ∷ [])
    ∙ any_append q (canon vs) (v ∷ [])
    ∙ ap (λ b. b || any q (v ∷ [])) (any_canon q vs)
    ∙ sym (any_append q vs (v ∷ []))
    ∙ sym (any_canon q (vs ++ v ∷ [])))

-- ---- references

or_mapped : {B C : Type 0} (g : B → C) (a b : Option B) → option_map g (option_or a b) ≡ option_or (option_map g a) (option_map g b)
or_mapped g None b = refl
or_mapped g (Some x) b = refl

module _ {B X C : Type 0} (test : B → Bool) (g : B → C) (f : X → List B) (xs : List X) where
  -- the first of what some lists have that passes the test
  abbrev pub first_in : List X → Option C
  first_in ys = option_map g (find test (flat_map f ys))

  module _ (i : ℕ) where
    module _ (x : X) (p : i < length xs) (h : x ≡ get_or xs i x) (so_far : first_in (drop i xs) ≡ first_in xs) where
      here_or_later : option_or (option_map g (find test (f x))) (first_in (drop (i + 1) xs)) ≡ first_in xs
      here_or_later =
          sym (ap first_in (drop_more xs i x p ∙ ap (λ y. y ∷ drop (i + 1) xs) (sym h)) ∙ ap (option_map g) (find-append test (f x) (flat_map f (drop (i + 1) xs))) ∙ or_mapped g (find test (f x)) (find test (flat_map f (drop (i + 1) xs))))
          ∙ so_far

      pub not_here : None ≡ option_map g (find test (f x)) → first_in (drop (i + 1) xs) ≡ first_in xs
      not_here n = ap (λ o. option_or o (first_in (drop (i + 1) xs))) n ∙ here_or_later

      pub found_here : (c : C) → Some c ≡ option_map g (find test (f x)) → Some c ≡ first_in xs
      found_here c n = ap (λ o. option_or o (first_in (drop (i + 1) xs))) n ∙ here_or_later

    pub nowhere : first_in (drop i xs) ≡ first_in xs → length xs ≤ i → None ≡ first_in xs
    nowhere so_far p = sym (ap first_in (drop_all i xs p)) ∙ so_far

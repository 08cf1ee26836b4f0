-- Loops that look for the first fault of the things of a list.
use Rattle.std.proofs.Common.{◌≡◌, ℕ, zero, suc, ◌+◌, ◌<◌, ◌≤◌, List, [], ◌∷◌, Some, None, length, get_or, map, take, drop, sym, ap, subst, ◌∙◌, arith, refl}
use Rattle.std.specs.Option.{option_or}
use Rattle.std.proofs.lemmas.List.{drop_all}
use Rattle.kola_core.proofs.Lists.{left_less, taken_more, length_seen, longer, seen}
use Rattle.kola_load.specs.Loading.{Test, first_of, first_among}

module _ {X A : Type 0} (v : X → A) (xs : List X) (us : List A) (e : map v xs ≡ us) (i : ℕ) where
  module _ (x : X) (p : i < length xs) (h : x ≡ get_or xs i x) where
    module _ (test : A → Test) (fault : Test) (left : first_of test (drop i us) ≡ fault) where
      of_step : option_or (test (v x)) (first_of test (drop (i + 1) us)) ≡ fault
      of_step = sym (ap (first_of test) (left_less v xs us i x e p h)) ∙ left

      pub of_next : test (v x) ≡ None → first_of test (drop (i + 1) us) ≡ fault
      of_next n = sym (ap (λ o. option_or o (first_of test (drop (i + 1) us))) n) ∙ of_step

      pub of_found : (f : _) → test (v x) ≡ Some f → fault ≡ Some f
      of_found f n = sym of_step ∙ ap (λ o. option_or o (first_of test (drop (i + 1) us))) n

    module _ (test : List A → A → Test) (fault : Test) (left : first_among test (take i us) (drop i us) ≡ fault) where
      among_step : option_or (test (take i us) (v x)) (first_among test (take (i + 1) us) (drop (i + 1) us)) ≡ fault
      among_step =
          ap (λ l. option_or (test (take i us) (v x)) (first_among test l (drop (i + 1) us))) (taken_more v xs us i x e p h)
          ∙ sym (ap (first_among test (take i us)) (left_less v xs us i x e p h)) ∙ left

      pub among_next : test (take i us) (v x) ≡ None → first_among test (take (i + 1) us) (drop (i + 1) us) ≡ fault
      among_next n = sym (ap (λ o. option_or o (first_among test (take (i + 1) us) (drop (i + 1) us))) n) ∙ among_step

      pub among_found : (f : _) → test (take i us) (v x) ≡ Some f → fault ≡ Some f
      among_found f n = sym among_step ∙ ap (λ o. option_or o (first_among test (take (i + 1) us) (drop (i + 1) us))) n

  module _ (p : length xs ≤ i) where
    nothing_left : drop i us ≡ []
    nothing_left = let l = length_seen v xs us e in drop_all i us (omega arith)

    pub of_end : (test : A → Test) (fault : Test) → first_of test (drop i us) ≡ fault → fault ≡ None
    of_end test fault left = sym left ∙ ap (first_of test) nothing_left

    pub among_end : (test : List A → A → Test) (fault : Test) → first_among test (take i us) (drop i us) ≡ fault → fault ≡ None
    among_end test fault left = sym left ∙ ap (first_among test (take i us)) nothing_left

pub map_itself : {A : Type 0} (xs : List A) → map (λ x. x) xs ≡ xs
map_itself [] = refl
map_itself (x ∷ xs) = ap (λ l. x ∷ l) (map_itself xs)

-- the thing at a place of a list that is seen as it is
pub at_place : {A : Type 0} (xs us : List A) (i : ℕ) (x : A) → xs ≡ us → i < length xs → x ≡ get_or xs i x → (i < length us) × (x ≡ get_or us i x)
at_place xs us i x e p h = (subst (λ l. i < length l) e p, h ∙ ap (λ l. get_or l i x) e)

-- the thing at a place of a list, as it is seen
pub seen_at : {X A : Type 0} (v : X → A) (xs : List X) (i : ℕ) (x : X) → i < length xs → x ≡ get_or xs i x → (i < length (map v xs)) × (v x ≡ get_or (map v xs) i (v x))
seen_at v xs i x p h = (longer v xs (map v xs) i refl p, sym (seen v xs (map v xs) i x refl p h))

-- the things at one place of two lists that are seen alike
pub seen_alike : {X Y A : Type 0} (f : X → A) (g : Y → A) (xs : List X) (ys : List Y) (i : ℕ) (x : X) (y : Y) → map f xs ≡ map g ys → i < length xs → i < length ys → x ≡ get_or xs i x → y ≡ get_or ys i y → f x ≡ g y
seen_alike f g [] ys i x y e p q h k = absurd (omega arith)
seen_alike f g (u ∷ us) [] i x y e p q h k = absurd (omega arith)
seen_alike f g (u ∷ us) (w ∷ ws) zero x y e p q h k = ap f h ∙ (let r : f u ≡ g w = cc in r) ∙ ap g (sym k)
seen_alike f g (u ∷ us) (w ∷ ws) (suc i) x y e p q h k = seen_alike f g us ws i x y (cc) (omega arith) (omega arith) h k

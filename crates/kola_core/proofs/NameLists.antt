-- Things that have names, and the list of the names that they have.
use Rattle.std.proofs.Common.{◌≡◌, ℕ, suc, ◌+◌, Bool, true, false, not, cond, ◌||◌, List, [], ◌∷◌, ◌++◌, Some, None, length, map, position, nat_lt, if◌then◌else◌, refl, ap, ◌∙◌}
use Rattle.std.specs.List.{list_any, position_or_len}
use Rattle.std.specs.Str.{bytes_eq}
use Rattle.std.proofs.lemmas.List.{map-append}
use Rattle.kola_core.specs.NameLists.{is_listed, with_name}

-- a name that is not in a list stands at its end
pub with_new : (ns : List (List ℕ)) (n : List ℕ) → is_listed n ns ≡ false → with_name ns n ≡ ns ++ n ∷ []
with_new ns n e = ap (λ b. cond b ns (ns ++ n ∷ [])) e

module _ {X : Type 0} (f : X → List ℕ) where
  pub listed_seen : (n : List ℕ) (xs : List X) → list_any (λ x. bytes_eq n (f x)) xs ≡ is_listed n (map f xs)
  listed_seen n [] = refl
  listed_seen n (x ∷ xs) = ap (λ b. bytes_eq n (f x) || b) (listed_seen n xs)

  one_more : (xs : List X) (x : X) (b : Bool) → map f (if b then xs else xs ++ x ∷ []) ≡ cond b (map f xs) (map f xs ++ f x ∷ [])
  one_more xs x true = refl
  one_more xs x false = map-append f xs (x ∷ [])

  -- a thing is added at the end where none has its name
  pub added_seen : (xs : List X) (x : X) → map f (if list_any (λ y. bytes_eq (f x) (f y)) xs then xs else xs ++ x ∷ []) ≡ with_name (map f xs) (f x)
  added_seen xs x = one_more xs x _ ∙ ap (λ b. cond b (map f xs) (map f xs ++ f x ∷ [])) (listed_seen (f x) xs)

  module _ (n : List ℕ) where
    place_or_len_seen : (xs : List X) → position_or_len (bytes_eq n) (map f xs) ≡ position_or_len (λ x. bytes_eq n (f x)) xs
    place_or_len_seen [] = refl
    place_or_len_seen (x ∷ xs) = ap (λ i. cond (not (bytes_eq n (f x))) (1 + i) 0) (place_or_len_seen xs)

    length_names : (xs : List X) → length (map f xs) ≡ length xs
    length_names [] = refl
    length_names (x ∷ xs) = ap suc (length_names xs)

    pub place_seen : (xs : List X) → position (bytes_eq n) (map f xs) ≡ position (λ x. bytes_eq n (f x)) xs
    place_seen xs = λ j. cond (nat_lt (place_or_len_seen xs j) (length_names xs j)) (Some (place_or_len_seen xs j)) None

-- Lists of the program that contracts see through a view of their entries, and steps of a loop over them.
use Rattle.std.proofs.Common.{◌≡◌, ℕ, ◌+◌, ◌<◌, List, [], ◌∷◌, ◌++◌, length, get_or, map, take, drop, sym, ap, ◌∙◌, arith, refl}
use Rattle.std.proofs.lemmas.List.{get_or-map, length-map, map-append, append_assoc, take_more, drop_more}

module _ {X A : Type 0} (v : X → A) where
  -- the entry at a place, as it is seen
  pub seen : (xs : List X) (us : List A) (i : ℕ) (x : X) → map v xs ≡ us → i < length xs → x ≡ get_or xs i x → get_or us i (v x) ≡ v x
  seen xs us i x e p h = ap (λ l. get_or l i (v x)) (sym e) ∙ get_or-map v xs i x (v x) p ∙ ap v (sym h)

  pub length_seen : (xs : List X) (us : List A) → map v xs ≡ us → length us ≡ length xs
  length_seen xs us e = ap length (sym e) ∙ length-map xs v

  pub longer : (xs : List X) (us : List A) (i : ℕ) → map v xs ≡ us → i < length xs → i < length us
  longer xs us i e p = let h = length_seen xs us e in omega arith

  -- the entries so far, and one more
  pub taken_more : (xs : List X) (us : List A) (i : ℕ) (x : X) → map v xs ≡ us → i < length xs → x ≡ get_or xs i x → take (i + 1) us ≡ take i us ++ v x ∷ []
  taken_more xs us i x e p h = take_more us i (v x) (longer xs us i e p) ∙ (λ j. take i us ++ seen xs us i x e p h j ∷ [])

  -- the entries left, and one fewer
  pub left_less : (xs : List X) (us : List A) (i : ℕ) (x : X) → map v xs ≡ us → i < length xs → x ≡ get_or xs i x → drop i us ≡ v x ∷ drop (i + 1) us
  left_less xs us i x e p h = drop_more us i (v x) (longer xs us i e p) ∙ (λ j. seen xs us i x e p h j ∷ drop (i + 1) us)

  -- one more entry copied
  pub copied_more : (done xs ms : List X) (us : List A) (i : ℕ) (x y : X) → map v done ≡ take i us → xs ≡ ms → map v ms ≡ us → i < length xs → x ≡ get_or xs i x → v y ≡ v x → map v (done ++ y ∷ []) ≡ take (i + 1) us
  copied_more done xs ms us i x y h e f p q k =
      map-append v done (y ∷ [])
      ∙ (λ j. h j ++ k j ∷ [])
      ∙ sym (taken_more xs us i x (ap (map v) e ∙ f) p q)

  -- one more entry copied behind what stood before
  pub pushed_more : (start : List A) (done xs : List X) (us : List A) (i : ℕ) (x y : X) → map v done ≡ start ++ take i us → map v xs ≡ us → i < length xs → x ≡ get_or xs i x → v y ≡ v x → map v (done ++ y ∷ []) ≡ start ++ take (i + 1) us
  pushed_more start done xs us i x y h e p q k =
      map-append v done (y ∷ [])
      ∙ (λ j. h j ++ k j ∷ [])
      ∙ append_assoc start (take i us) (v x ∷ [])
      ∙ ap (λ l. start ++ l) (sym (taken_more xs us i x e p q))

-- two lists of pairs with the same first and the same second parts are one
pub same_pairs : {A B : Type 0} (xs ys : List (A × B)) → map (λ (p : A × B). p.0) xs ≡ map (λ (p : A × B). p.0) ys → map (λ (p : A × B). p.1) xs ≡ map (λ (p : A × B). p.1) ys → xs ≡ ys
same_pairs [] [] e f = refl
same_pairs [] (y ∷ ys) e f = cc
same_pairs (x ∷ xs) [] e f = cc
same_pairs (x ∷ xs) (y ∷ ys) e f =
    let a : x.0 ≡ y.0 = cc in
    let b : x.1 ≡ y.1 = cc in
    let rest = same_pairs xs ys (cc) (cc) in
    λ i. (a i, b i) ∷ rest i

-- Steps of loops: the entries so far, and one more.
use Rattle.std.proofs.Common.{◌≡◌, ℕ, ◌+◌, ◌-◌, ◌<◌, ◌≤◌, length, drop, arith, List, [], ◌∷◌, ◌++◌, Some, get_or, map, take, sym, ap, ap₂, ◌∙◌}
use Rattle.std.specs.Prelude.{slice_get}
use Rattle.std.proofs.lemmas.List.{take_more, drop_more, map_push}
use Rattle.std.proofs.lemmas.Option.{slice_get_within, get_or_from_slice_get}

pub taken_at : {X : Type 0} (xs : List X) (i : ℕ) (x : X) → slice_get xs i ≡ Some x → take (i + 1) xs ≡ take i xs ++ x ∷ []
taken_at xs i x e = take_more xs i x (slice_get_within xs i x e) ∙ ap (λ z. take i xs ++ z ∷ []) (get_or_from_slice_get xs i x x e)

-- what was made of each entry, and of one more
pub made_at : {X A B : Type 0} (v : X → A) (f : A → B) (done new : List B) (xs : List X) (i : ℕ) (x : X) (y : B) → done ≡ map f (map v (take i xs)) → new ≡ done ++ y ∷ [] → slice_get xs i ≡ Some x → y ≡ f (v x) → new ≡ map f (map v (take (i + 1) xs))
made_at v f done new xs i x y h n e k =
    n
    ∙ (ap₂ (λ l z. l ++ z ∷ []) h k
    ∙ sym (ap (λ l. map f (map v l)) (taken_at xs i x e) ∙ (ap (map f) (map_push v (take i xs) x) ∙ map_push f (map v (take i xs)) (v x))))

-- one entry more from the end
pub left_item : {X : Type 0} (xs : List X) (n : ℕ) (x : X) → 0 < n → n ≤ length xs → x ≡ get_or xs (n - 1) x → drop (n - 1) xs ≡ x ∷ drop n xs
left_item xs n x p l h = drop_more xs (n - 1) x (omega (arith, p, l)) ∙ ap₂ (λ y k. y ∷ drop k xs) (sym h) (omega (arith, p))

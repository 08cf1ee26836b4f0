-- Walks over the variables in scope, from the newest on.
use Rattle.std.proofs.Common.{◌≡◌, ℕ, zero, suc, ◌+◌, ◌-◌, ◌<◌, ◌≤◌, Bool, true, false, cond, List, [], ◌∷◌, ◌++◌, length, get_or, take, drop, reverse, Option, Some, None, option_map, refl, sym, ap, ◌∙◌, arith}
use Rattle.std.proofs.lemmas.List.{drop_all, drop_more, length-reverse, length-drop, get_or-reverse, reverse-append, take-append-drop}
use Rattle.kola_values.specs.Types.{TypeTree}
use Rattle.oql_check.specs.QueryTypes.{Scope}
use Rattle.kola_translate.specs.Translation.{distance}

pub from_newest : (xs : Scope) (i : ℕ) (x : List ℕ × TypeTree) → i < length xs → x ≡ get_or xs (length xs - 1 - i) x → drop i (reverse xs) ≡ x ∷ drop (i + 1) (reverse xs)
from_newest xs i x p h =
    let m = length-reverse xs in
    drop_more (reverse xs) i x (omega arith) ∙ ap (λ y. y ∷ drop (i + 1) (reverse xs)) (get_or-reverse xs i x p ∙ sym h)

drop_past : (vs ws : Scope) → drop (length vs) (vs ++ ws) ≡ ws
drop_past [] ws = refl
drop_past (v ∷ vs) ws = drop_past vs ws

pub newest_gone : (xs : Scope) (n : ℕ) → reverse (take n xs) ≡ drop (length xs - n) (reverse xs)
newest_gone xs n =
    let r = reverse (drop n xs) in
    let m : length r ≡ length xs - n = length-reverse (drop n xs) ∙ length-drop n xs in
    sym (drop_past r (reverse (take n xs)))
    ∙ (λ j. drop (m j) (sym (reverse-append (take n xs) (drop n xs)) j))
    ∙ ap (λ l. drop (length xs - n) (reverse l)) (take-append-drop n xs)

pub gone : (xs us : Scope) (n : ℕ) → reverse xs ≡ us → reverse (take n xs) ≡ drop (length us - n) us
gone xs us n e = newest_gone xs n ∙ ap (λ k. drop (k - n) (reverse xs)) (sym (length-reverse xs)) ∙ ap (λ l. drop (length l - n) l) e

take_none : (n : ℕ) → take {A = List ℕ × TypeTree} n [] ≡ []
take_none zero = refl
take_none (suc n) = refl

-- the scope behind its newest variable
pub newest_off : (xs us : Scope) (n : ℕ) → reverse xs ≡ us → n ≡ length xs - 1 → reverse (take n xs) ≡ drop 1 us
newest_off [] us n e h = ap reverse (take_none n) ∙ ap (λ l. drop 1 l) e
newest_off (x ∷ xs) us n e h =
    let m : length us ≡ length (x ∷ xs) = ap length (sym e) ∙ length-reverse (x ∷ xs) in
    let k : length us - n ≡ 1 = omega arith in
    gone (x ∷ xs) us n e ∙ ap (λ j. drop j us) k

-- ---- how many newer variables stand before a name

-- some more of them
abbrev pub farther : ℕ → Option ℕ → Option ℕ
farther n (Some k) = Some (n + k)
farther n None = None

pub no_farther : (o : Option ℕ) → o ≡ farther 0 o
no_farther (Some k) = ap Some (omega arith)
no_farther None = refl

one_farther : (i : ℕ) (o : Option ℕ) → farther i (option_map suc o) ≡ farther (i + 1) o
one_farther i (Some k) = ap Some (omega arith)
one_farther i None = refl

pub found_here : (i : ℕ) → farther i (Some 0) ≡ Some i
found_here i = ap Some (omega arith)

pub not_here : (i : ℕ) (x : List ℕ) (n : List ℕ × TypeTree) (ns : Scope) (b : Bool) → b ≡ false → farther i (cond b (Some 0) (option_map suc (distance x ns))) ≡ farther (i + 1) (distance x ns)
not_here i x n ns true e = absurd (cc)
not_here i x n ns false e = one_farther i (distance x ns)

pub not_found : (x : List ℕ) (ns : Scope) (i : ℕ) → length ns ≤ i → distance x ns ≡ farther i (distance x (drop i ns)) → None ≡ distance x ns
not_found x ns i p h = sym (h ∙ ap (λ l. farther i (distance x l)) (drop_all i ns p))

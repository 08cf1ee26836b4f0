-- Names found at their places.
use Rattle.std.proofs.Common.{◌≡◌, ℕ, ◌+◌, ◌<◌, Bool, true, false, not, cond, ◌||◌, List, [], ◌∷◌, ◌++◌, Option, Some, None, length, get_or, map, take, drop, position, slice_get, option_map, option_and_then, nat_lt, refl, sym, ap, ◌∙◌, arith}
use Rattle.std.specs.List.{find, position_or_len}
use Rattle.std.specs.Str.{bytes_eq}
use Rattle.std.proofs.lemmas.Option.{slice_get_past}
use Rattle.std.proofs.lemmas.Bool.Decides.{nat_tests}
use Rattle.std.proofs.lemmas.List.{drop_more, take-append-drop}
use Rattle.std.proofs.lemmas.List.Folds.{find_at}
use Rattle.kola_core.proofs.Lists.{seen, longer}
use Rattle.kola_core.proofs.NameLists.{place_seen}
use Rattle.kola_values.specs.Databases.{Class, Classes, look_up, extent_class}
use Rattle.kola_core.specs.NameLists.{is_listed}
use Rattle.kola_schema.specs.Schemas.{are_distinct, names_of, class_names, extent_names, class_named}
use Rattle.kola_values.proofs.SameTypes.{both_true, name_equal, name_itself}
use Rattle.kola_values.proofs.Anys.{bool_same}
use Rattle.kola_values.proofs.Truth.{not_true, both_false}
use Rattle.kola_schema.proofs.Schemas.{choose}

module _ {X : Type 0} (f : X → List ℕ) (n : List ℕ) where
  at_place : (xs : List X) (i : ℕ) (b : Bool) → nat_lt i (length xs) ≡ b → option_and_then (λ j. slice_get xs j) (cond b (Some i) None) ≡ slice_get xs i
  at_place xs i true e = refl
  at_place xs i false e = sym (slice_get_past xs i (grind (arith, nat_tests)))

  -- the entry at the place of a name is the first of the name
  pub found_at_place : (xs : List X) → option_and_then (λ i. slice_get xs i) (position (bytes_eq n) (map f xs)) ≡ find (λ x. bytes_eq n (f x)) xs
  found_at_place xs =
      ap (option_and_then (λ i. slice_get xs i)) (place_seen f n xs)
      ∙ at_place xs (position_or_len (λ x. bytes_eq n (f x)) xs) _ refl
      ∙ sym (find_at (λ x. bytes_eq n (f x)) xs)

pub named_found : (S : Classes) (n : List ℕ) → find (λ (k : Class). bytes_eq n k.name) S ≡ class_named S n
named_found [] n = refl
named_found (k ∷ ks) n = ap (cond (bytes_eq n k.name) (Some k)) (named_found ks n)

pub extent_found : (S : Classes) (n : List ℕ) → option_map (λ (k : Class). k.name) (find (λ (k : Class). bytes_eq n k.extent) S) ≡ extent_class S n
extent_found [] n = refl
extent_found (k ∷ ks) n = choose (λ (c : Class). c.name) (bytes_eq n k.extent) k (find (λ (c : Class). bytes_eq n c.extent) ks) (extent_class ks n) (extent_found ks n)

pub entry_found : {A : Type 0} (es : List (List ℕ × A)) (n : List ℕ) → option_map (λ (e : List ℕ × A). e.1) (find (λ (e : List ℕ × A). bytes_eq n e.0) es) ≡ look_up n es
entry_found [] n = refl
entry_found {A} (e ∷ es) n = choose (λ (f : List ℕ × A). f.1) (bytes_eq n e.0) e (find (λ (f : List ℕ × A). bytes_eq n f.0) es) (look_up n es) (entry_found es n)

module _ (S : Classes) (ns : List (List ℕ)) (n : List ℕ) (r : Option ℕ) (h : r ≡ position (bytes_eq n) ns) where
  pub class_at_place : ns ≡ class_names S → option_and_then (λ i. slice_get S i) r ≡ class_named S n
  class_at_place e =
      ap (option_and_then (λ i. slice_get S i)) (h ∙ ap (position (bytes_eq n)) e)
      ∙ found_at_place (λ (k : Class). k.name) n S
      ∙ named_found S n

  pub extent_at_place : ns ≡ extent_names S → option_map (λ (k : Class). k.name) (option_and_then (λ i. slice_get S i) r) ≡ extent_class S n
  extent_at_place e =
      ap (λ q. option_map (λ (k : Class). k.name) (option_and_then (λ i. slice_get S i) q)) (h ∙ ap (position (bytes_eq n)) e)
      ∙ ap (option_map (λ (k : Class). k.name)) (found_at_place (λ (k : Class). k.extent) n S)
      ∙ extent_found S n

pub entry_at_place : {A : Type 0} (es : List (List ℕ × A)) (n : List ℕ) (r : Option ℕ) → r ≡ position (bytes_eq n) (names_of es) → option_map (λ (e : List ℕ × A). e.1) (option_and_then (λ i. slice_get es i) r) ≡ look_up n es
entry_at_place {A} es n r h =
    ap (λ q. option_map (λ (e : List ℕ × A). e.1) (option_and_then (λ i. slice_get es i) q)) h
    ∙ ap (option_map (λ (e : List ℕ × A). e.1)) (found_at_place (λ (e : List ℕ × A). e.0) n es)
    ∙ entry_found es n

-- ---- a name that no entry before has

bytes_comm : (m n : List ℕ) → bytes_eq m n ≡ bytes_eq n m
bytes_comm m n = bool_same (bytes_eq m n) (bytes_eq n m) (λ h. ap (bytes_eq n) (name_equal m n h) ∙ name_itself n) (λ h. ap (bytes_eq m) (name_equal n m h) ∙ name_itself m)

-- a name that differs from one that is listed behind it
other : (m : List ℕ) (ms ns : List (List ℕ)) (n : List ℕ) → is_listed m (ms ++ n ∷ ns) ≡ false → bytes_eq n m ≡ false
other m [] ns n h = bytes_comm n m ∙ (both_false (bytes_eq m n) (is_listed m ns) h).0
other m (k ∷ ms) ns n h = other m ms ns n (both_false (bytes_eq m k) (is_listed m (ms ++ n ∷ ns)) h).1

taken_apart : {X : Type 0} (xs : List X) (i : ℕ) (x : X) → i < length xs → x ≡ get_or xs i x → xs ≡ take i xs ++ x ∷ drop (i + 1) xs
taken_apart xs i x p e = sym (take-append-drop i xs) ∙ ap (λ l. take i xs ++ l) (drop_more xs i x p ∙ ap (λ y. y ∷ drop (i + 1) xs) (sym e))

fresh_name : (ms ns : List (List ℕ)) (n : List ℕ) → are_distinct (ms ++ n ∷ ns) ≡ true → is_listed n ms ≡ false
fresh_name [] ns n h = refl
fresh_name (m ∷ ms) ns n h =
    let p = both_true (not (is_listed m (ms ++ n ∷ ns))) (are_distinct (ms ++ n ∷ ns)) h in
    λ j. other m ms ns n (not_true (is_listed m (ms ++ n ∷ ns)) p.0) j || fresh_name ms ns n p.1 j

module _ {X : Type 0} (f : X → List ℕ) (xs : List X) (i : ℕ) (x : X) (p : i < length xs) (e : x ≡ get_or xs i x) where
  pub fresh : are_distinct (map f xs) ≡ true → is_listed (f x) (take i (map f xs)) ≡ false
  fresh h = fresh_name (take i (map f xs)) (drop (i + 1) (map f xs)) (f x)
      (ap are_distinct (sym (taken_apart (map f xs) i (f x) (longer f xs (map f xs) i refl p) (sym (seen f xs (map f xs) i x refl p e)))) ∙ h)

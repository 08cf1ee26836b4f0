-- A word of terms and rules is found among those of its own length.
use Rattle.std.proofs.Common.{◌≡◌, ℕ, Bool, true, false, cond, List, [], ◌∷◌, length, Some, refl, ap, ◌∙◌, arith}
use Rattle.std.specs.Prelude.{◌==◌, filter}
use Rattle.std.specs.List.{find}
use Rattle.std.specs.Str.{bytes_eq}
use Rattle.std.proofs.lemmas.Bool.Decides.{nat_tests}
use Rattle.kola_base.specs.TermWords.{term_word_spelling, term_words, term_word_named, words_of_length}
use Rattle.kola_base.proofs.SignLaws.{name_equal}

find_filter : {A : Type 0} (p q : A → Bool) → ((x : A) → p x ≡ true → q x ≡ true) → (xs : List A) → find p (filter q xs) ≡ find p xs
find_filter p q h [] = refl
find_filter {A} p q h (x ∷ xs) = at (find_filter p q h xs) (q x) refl (p x) refl
  where
    at : find p (filter q xs) ≡ find p xs → (b : Bool) → q x ≡ b → (a : Bool) → p x ≡ a → find p (cond b (x ∷ filter q xs) (filter q xs)) ≡ cond a (Some x) (find p xs)
    at ih true e a i = ap (λ c. cond c (Some x) (find p (filter q xs))) i ∙ ap (cond a (Some x)) ih
    at ih false e false i = ih
    at ih false e true i = let w = h x i in cc

same_length : (n : ℕ) → (n == n) ≡ true
same_length n = grind (arith, nat_tests)

pub named_by_length : (bs : List ℕ) → find (λ w. bytes_eq (term_word_spelling w) bs) (words_of_length (length bs)) ≡ term_word_named bs
unfolding words_of_length term_word_named
named_by_length bs = find_filter (λ w. bytes_eq (term_word_spelling w) bs) (λ w. length (term_word_spelling w) == length bs) (λ w e. ap (λ s. length s == length bs) (name_equal (term_word_spelling w) bs e) ∙ same_length (length bs)) term_words

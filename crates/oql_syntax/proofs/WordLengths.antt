-- A word of queries is found among those of its own length, and words of queries are exactly the words that are no names.
use Rattle.std.proofs.Common.{◌≡◌, ℕ, Bool, true, false, cond, List, [], ◌∷◌, length, Some, None, refl, ap, sym, ◌∙◌, arith}
use Rattle.std.specs.Prelude.{◌↔◌, map, ◌==◌, ◌||◌, not, filter, Option}
use Rattle.std.specs.List.{find, list_any, slice_split}
use Rattle.std.specs.Char.{to_ascii_lowercase}
use Rattle.std.specs.Str.{str_eq_ignore_ascii_case, str_to_ascii_lowercase}
use Rattle.std.proofs.lemmas.Bool.Decides.{nat_tests}
use Rattle.std.proofs.lemmas.List.{length-map}
use Rattle.kola_base.specs.QueryWords.{words_left_out, reserved_words, is_among, is_name}
use Rattle.kola_base.proofs.SignLaws.{name_equal}
use Rattle.oql_syntax.specs.Alphabet.{query_word_spelling, query_words, query_word_named, or_left_out}
use Rattle.oql_syntax.specs.WordLists.{words_of_length, left_out_of_length}
use Rattle.oql_syntax.specs.declared.word.QueryWord.{QueryWord}

find_filter : {A : Type 0} (p q : A → Bool) → ((x : A) → p x ≡ true → q x ≡ true) → (xs : List A) → find p (filter q xs) ≡ find p xs
find_filter p q h [] = refl
find_filter {A} p q h (x ∷ xs) = at (find_filter p q h xs) (q x) refl (p x) refl
  where
    at : find p (filter q xs) ≡ find p xs → (b : Bool) → q x ≡ b → (a : Bool) → p x ≡ a → find p (cond b (x ∷ filter q xs) (filter q xs)) ≡ cond a (Some x) (find p xs)
    at ih true e a i = ap (λ c. cond c (Some x) (find p (filter q xs))) i ∙ ap (cond a (Some x)) ih
    at ih false e false i = ih
    at ih false e true i = let w = h x i in cc

any_filter : {A : Type 0} (p q : A → Bool) → ((x : A) → p x ≡ true → q x ≡ true) → (xs : List A) → list_any p (filter q xs) ≡ list_any p xs
any_filter p q h [] = refl
any_filter {A} p q h (x ∷ xs) = at (any_filter p q h xs) (q x) refl (p x) refl
  where
    at : list_any p (filter q xs) ≡ list_any p xs → (b : Bool) → q x ≡ b → (a : Bool) → p x ≡ a → list_any p (cond b (x ∷ filter q xs) (filter q xs)) ≡ (a || list_any p xs)
    at ih true e a i = (λ j. i j || ih j)
    at ih false e false i = ih
    at ih false e true i = let w = h x i in cc

-- words that are the same in any case have as many letters
same_length : (v w : List ℕ) → str_eq_ignore_ascii_case v w ≡ true → (length w == length v) ≡ true
same_length v w e =
    let h = ap length (name_equal (str_to_ascii_lowercase v) (str_to_ascii_lowercase w) e) in
    grind (arith, nat_tests, h, length-map v to_ascii_lowercase, length-map w to_ascii_lowercase)

pub named_by_length : (bs : List ℕ) → find (λ w. str_eq_ignore_ascii_case bs (query_word_spelling w)) (words_of_length (length bs)) ≡ find (λ w. str_eq_ignore_ascii_case bs (query_word_spelling w)) query_words
unfolding words_of_length
named_by_length bs = find_filter (λ w. str_eq_ignore_ascii_case bs (query_word_spelling w)) (λ w. length (query_word_spelling w) == length bs) (λ w e. same_length bs (query_word_spelling w) e) query_words

pub left_out_by_length : (bs : List ℕ) → list_any (str_eq_ignore_ascii_case bs) (left_out_of_length (length bs)) ≡ is_among words_left_out bs
unfolding left_out_of_length is_among
left_out_by_length bs = any_filter (str_eq_ignore_ascii_case bs) (λ v. length v == length bs) (λ v e. same_length bs v e) (slice_split (λ b. b == 32) words_left_out)

abbrev is_some : {A : Type 0} → Option A → Bool
is_some (Some x) = true
is_some None = false

some_any : {A B : Type 0} (p : B → Bool) (f : A → B) (xs : List A) → is_some (find (λ x. p (f x)) xs) ≡ list_any p (map f xs)
some_any p f [] = refl
some_any {A} p f (x ∷ xs) = at (some_any p f xs) (p (f x))
  where
    at : is_some (find (λ y. p (f y)) xs) ≡ list_any p (map f xs) → (b : Bool) → is_some (cond b (Some x) (find (λ y. p (f y)) xs)) ≡ (b || list_any p (map f xs))
    at ih true = refl
    at ih false = ih

names_by : (b : Bool) (o : Option QueryWord) (a : Bool) → is_some o ≡ a → (not (a || b) ≡ true) ↔ (or_left_out b o ≡ None)
names_by b (Some w) true e = (λ h. absurd (cc), λ h. absurd (cc))
names_by b (Some w) false e = absurd (cc)
names_by b None true e = absurd (cc)
names_by true None false e = (λ h. absurd (cc), λ h. absurd (cc))
names_by false None false e = (λ h. refl, λ h. refl)

pub none_are_names : (bs : List ℕ) → (is_name bs ≡ true) ↔ (query_word_named bs ≡ None)
unfolding is_name is_among query_word_named query_words
none_are_names bs = names_by (is_among words_left_out bs) (find (λ w. str_eq_ignore_ascii_case bs (query_word_spelling w)) query_words) (is_among reserved_words bs) (some_any (str_eq_ignore_ascii_case bs) query_word_spelling query_words)

pub among_length : (n : ℕ) (bs : List ℕ) → length bs ≡ n → list_any (str_eq_ignore_ascii_case bs) (left_out_of_length n) ≡ is_among words_left_out bs
among_length n bs e = ap (λ k. list_any (str_eq_ignore_ascii_case bs) (left_out_of_length k)) (sym e) ∙ left_out_by_length bs

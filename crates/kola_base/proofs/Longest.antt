-- The first piece from left to right is the longest one.
use Rattle.std.proofs.Common.{◌≡◌, ℕ, zero, suc, ◌+◌, ◌<◌, ◌≤◌, List, [], ◌∷◌, length, take, map, Bool, true, false, cond, ◌&&◌, Option, Some, None, option_map, refl, sym, ap, subst, ◌∙◌, arith, one-add}
use Rattle.std.specs.Prelude.{IfSome, IfNone}
use Rattle.std.specs.List.{list_all, prefix_len}
use Rattle.std.proofs.lemmas.List.{length-map, take-map}
use Rattle.std.proofs.lemmas.List.Sums.{prefix_len-le-length}
use Rattle.kola_base.specs.declared.class.Class.{Class}
use Rattle.kola_base.specs.declared.class.Class.TheVariants.{Blank, LineEnd, Letter, Digit, Minus, Slash, Less, Greater, Equal, Bang, Bar, Quote, Backslash, Single, Other}
use Rattle.kola_base.specs.declared.scan.Sort.{Sort}
use Rattle.kola_base.specs.declared.scan.Sort.TheVariants as sorts
use Rattle.kola_base.specs.Pieces.{class, goes_on, shape, closes, piece, IsLongest, NoPiece}
use Rattle.kola_base.specs.Scanning.{next_class, first_by, first_piece, string_len}

-- ---- the longest front that passes

front_at : {A : Type 0} (p : A → Bool) (k : A) (ks : List A) (q : Bool) → p k ≡ q → list_all p (take (prefix_len p ks) ks) ≡ true → list_all p (take (cond q (1 + prefix_len p ks) 0) (k ∷ ks)) ≡ true
front_at p k ks true e h = rw one-add (ap (λ q. q && list_all p (take (prefix_len p ks) ks)) e ∙ h)
front_at p k ks false e h = refl

-- it passes
pub front_passes : {A : Type 0} (p : A → Bool) (ks : List A) → list_all p (take (prefix_len p ks) ks) ≡ true
front_passes p [] = refl
front_passes p (k ∷ ks) = front_at p k ks (p k) refl (front_passes p ks)

past_at : (p : Class → Bool) (k : Class) (ks : List Class) (m : ℕ) (q : Bool) → p k ≡ q → cond q (1 + prefix_len p ks) 0 < suc m → list_all p (take (suc m) (k ∷ ks)) ≡ true → (prefix_len p ks < m → list_all p (take m ks) ≡ true → ⊥) → ⊥
past_at p k ks m true i l e go = go (omega (arith, l)) (sym (ap (λ q. q && list_all p (take m ks)) i) ∙ e)
past_at p k ks m false i l e go = absurd (let none : (false && list_all p (take m ks)) ≡ true = sym (ap (λ q. q && list_all p (take m ks)) i) ∙ e in cc)

-- and no longer front does
front_longest : (p : Class → Bool) (ks : List Class) (m : ℕ) → prefix_len p ks < m → m ≤ length ks → list_all p (take m ks) ≡ true → ⊥
front_longest p [] m h l e = absurd (omega (arith, h, l))
front_longest p (k ∷ ks) zero h l e = absurd (omega (arith, h))
front_longest p (k ∷ ks) (suc m) h l e = past_at p k ks m (p k) refl h e (λ i c. front_longest p ks m i (omega (arith, l)) c)

-- ---- longer pieces

-- no piece has more than n bytes
abbrev NoLonger : ℕ → List Class → Type 0
NoLonger n ks = (r : Sort) (m : ℕ) → n < m → m ≤ length ks → shape r (take m ks) ≡ true → ⊥

-- nothing goes on bytes of these classes, and nothing is bytes of these and more
abbrev NoPair : Class → Class → Type 0
NoPair k j = (r : Sort) (xs : List Class) → shape r (k ∷ j ∷ xs) ≡ true → ⊥

abbrev NoTriple : Class → Class → Type 0
NoTriple k j = (r : Sort) (i : Class) (xs : List Class) → shape r (k ∷ j ∷ i ∷ xs) ≡ true → ⊥

-- a byte of the class is no piece
abbrev NoSingle : Class → Type 0
NoSingle k = (r : Sort) → shape r (k ∷ []) ≡ true → ⊥

past_one : (k j : Class) (ks : List Class) → NoPair k j → NoLonger 1 (k ∷ j ∷ ks)
past_one k j ks none r zero h l e = absurd (omega (arith, h))
past_one k j ks none r (suc zero) h l e = absurd (omega (arith, h))
past_one k j ks none r (suc (suc m)) h l e = none r (take m ks) e

past_two : (k j : Class) (ks : List Class) → NoTriple k j → NoLonger 2 (k ∷ j ∷ ks)
past_two k j ks none r zero h l e = absurd (omega (arith, h))
past_two k j ks none r (suc zero) h l e = absurd (omega (arith, h))
past_two k j ks none r (suc (suc zero)) h l e = absurd (omega (arith, h))
past_two k j [] none r (suc (suc (suc m))) h l e = absurd (omega (arith, l))
past_two k j (i ∷ ks) none r (suc (suc (suc m))) h l e = none r i (take m ks) e

past_none : (k j : Class) (ks : List Class) → NoSingle k → NoPair k j → NoLonger 0 (k ∷ j ∷ ks)
past_none k j ks one two r zero h l e = absurd (omega (arith, h))
past_none k j ks one two r (suc zero) h l e = one r e
past_none k j ks one two r (suc (suc m)) h l e = two r (take m ks) e

past_end : (k : Class) → NoLonger 1 (k ∷ [])
past_end k r m h l e = absurd (omega (arith, h, l))

none_end : (k : Class) → NoSingle k → NoLonger 0 (k ∷ [])
none_end k one r zero h l e = absurd (omega (arith, h))
none_end k one r (suc zero) h l e = one r e
none_end k one r (suc (suc m)) h l e = absurd (omega (arith, l))

-- ---- what no piece is, by its first classes

no_minus : NoSingle Minus
no_minus sorts.Blank e = cc
no_minus _ e = cc

no_slash : NoSingle Slash
no_slash sorts.Blank e = cc
no_slash _ e = cc

no_bang : NoSingle Bang
no_bang sorts.Blank e = cc
no_bang _ e = cc

no_backslash : NoSingle Backslash
no_backslash sorts.Blank e = cc
no_backslash _ e = cc

no_other : NoSingle Other
no_other sorts.Blank e = cc
no_other _ e = cc

blank_pair : (j : Class) → NoPair Blank j
blank_pair j sorts.Blank xs e = cc
blank_pair j _ xs e = cc

line_end_pair : (j : Class) → NoPair LineEnd j
line_end_pair j sorts.Blank xs e = cc
line_end_pair j _ xs e = cc

single_pair : (j : Class) → NoPair Single j
single_pair j sorts.Blank xs e = cc
single_pair j _ xs e = cc

equal_pair : (j : Class) → NoPair Equal j
equal_pair j sorts.Blank xs e = cc
equal_pair j _ xs e = cc

backslash_pair : (j : Class) → NoPair Backslash j
backslash_pair j sorts.Blank xs e = cc
backslash_pair j _ xs e = cc

other_pair : (j : Class) → NoPair Other j
other_pair j sorts.Blank xs e = cc
other_pair j _ xs e = cc

slash_pair : (j : Class) → (j ≡ Slash → ⊥) → NoPair Slash j
slash_pair Slash none r xs e = none refl
slash_pair j none sorts.Comment xs e = cc
slash_pair j none _ xs e = cc

minus_pair : (j : Class) → (j ≡ Digit → ⊥) → (j ≡ Greater → ⊥) → NoPair Minus j
minus_pair Digit no_digit no_greater r xs e = no_digit refl
minus_pair Greater no_digit no_greater r xs e = no_greater refl
minus_pair j no_digit no_greater sorts.Number xs e = cc
minus_pair j no_digit no_greater _ xs e = cc

less_pair : (j : Class) → (j ≡ Equal → ⊥) → NoPair Less j
less_pair Equal none r xs e = none refl
less_pair j none sorts.Sign xs e = cc
less_pair j none _ xs e = cc

greater_pair : (j : Class) → (j ≡ Equal → ⊥) → NoPair Greater j
greater_pair Equal none r xs e = none refl
greater_pair j none sorts.Sign xs e = cc
greater_pair j none _ xs e = cc

bang_pair : (j : Class) → (j ≡ Equal → ⊥) → NoPair Bang j
bang_pair Equal none r xs e = none refl
bang_pair j none sorts.Sign xs e = cc
bang_pair j none _ xs e = cc

bar_pair : (j : Class) → (j ≡ Bar → ⊥) → NoPair Bar j
bar_pair Bar none r xs e = none refl
bar_pair j none sorts.Sign xs e = cc
bar_pair j none _ xs e = cc

arrow_triple : NoTriple Minus Greater
arrow_triple sorts.Sign i xs e = cc
arrow_triple _ i xs e = cc

at_most_triple : NoTriple Less Equal
at_most_triple sorts.Sign i xs e = cc
at_most_triple _ i xs e = cc

at_least_triple : NoTriple Greater Equal
at_least_triple sorts.Sign i xs e = cc
at_least_triple _ i xs e = cc

unequal_triple : NoTriple Bang Equal
unequal_triple sorts.Sign i xs e = cc
unequal_triple _ i xs e = cc

bars_triple : NoTriple Bar Bar
bars_triple sorts.Sign i xs e = cc
bars_triple _ i xs e = cc

-- ---- words, numbers and comments

word_longest : (ks : List Class) → NoLonger (suc (prefix_len (goes_on sorts.Word) ks)) (Letter ∷ ks)
word_longest ks r zero h l e = absurd (omega (arith, h))
word_longest ks sorts.Word (suc m) h l e = front_longest (goes_on sorts.Word) ks m (omega (arith, h)) (omega (arith, l)) e
word_longest ks _ (suc m) h l e = cc

number_longest : (ks : List Class) → NoLonger (suc (prefix_len (goes_on sorts.Number) ks)) (Digit ∷ ks)
number_longest ks r zero h l e = absurd (omega (arith, h))
number_longest ks sorts.Number (suc m) h l e = front_longest (goes_on sorts.Number) ks m (omega (arith, h)) (omega (arith, l)) e
number_longest ks _ (suc m) h l e = cc

negative_longest : (ks : List Class) → NoLonger (suc (prefix_len (goes_on sorts.Number) (Digit ∷ ks))) (Minus ∷ Digit ∷ ks)
negative_longest ks r zero h l e = absurd (omega (arith, h))
negative_longest ks r (suc zero) h l e = absurd (omega (arith, h))
negative_longest ks sorts.Number (suc (suc m)) h l e = front_longest (goes_on sorts.Number) ks m (omega (arith, h)) (omega (arith, l)) e
negative_longest ks _ (suc (suc m)) h l e = cc

comment_longest : (ks : List Class) → NoLonger (suc (prefix_len (goes_on sorts.Comment) (Slash ∷ ks))) (Slash ∷ Slash ∷ ks)
comment_longest ks r zero h l e = absurd (omega (arith, h))
comment_longest ks r (suc zero) h l e = absurd (omega (arith, h))
comment_longest ks sorts.Comment (suc (suc m)) h l e = front_longest (goes_on sorts.Comment) ks m (omega (arith, h)) (omega (arith, l)) e
comment_longest ks _ (suc (suc m)) h l e = cc

negative_is : (ks : List Class) (n : ℕ) → list_all (goes_on sorts.Number) (take n ks) ≡ true → shape sorts.Number (Minus ∷ take (1 + n) (Digit ∷ ks)) ≡ true
negative_is ks n h = rw one-add h

comment_is : (ks : List Class) (n : ℕ) → list_all (goes_on sorts.Comment) (take n ks) ≡ true → shape sorts.Comment (Slash ∷ take (1 + n) (Slash ∷ ks)) ≡ true
comment_is ks n h = rw one-add h

-- ---- strings

mapped : (o : Option ℕ) (n : ℕ) → option_map suc o ≡ Some n → (m : ℕ) × (n ≡ suc m) × (o ≡ Some m)
mapped None n e = absurd cc
mapped (Some m) n e = (m, (let i : Some (suc m) ≡ Some n = e in sym (some_is i)), refl)
  where
    some_is : {a b : ℕ} → Some a ≡ Some b → a ≡ b
    some_is e = cc

-- the bytes up to its end close a string
string_closes : (t : Bool) (ks : List Class) (n : ℕ) → string_len t ks ≡ Some n → (n ≤ length ks) × (closes t (take n ks) ≡ true)
string_closes t [] n e = absurd cc
string_closes t (LineEnd ∷ ks) n e = absurd cc
string_closes true (k ∷ ks) n e = let p = mapped (string_len false ks) n e in let h = string_closes false ks p.0 p.2 in rw p.1 (omega (arith, h.0), h.1)
string_closes false (Quote ∷ ks) n e = let one : n ≡ 1 = cc in rw one (omega arith, refl)
string_closes false (Backslash ∷ ks) n e = let p = mapped (string_len true ks) n e in let h = string_closes true ks p.0 p.2 in rw p.1 (omega (arith, h.0), h.1)
string_closes false (k ∷ ks) n e = let p = mapped (string_len false ks) n e in let h = string_closes false ks p.0 p.2 in rw p.1 (omega (arith, h.0), h.1)

-- and no other bytes do
string_only : (t : Bool) (ks : List Class) (m : ℕ) → m ≤ length ks → closes t (take m ks) ≡ true → string_len t ks ≡ Some m
string_only t [] zero l e = absurd cc
string_only t [] (suc m) l e = absurd (omega (arith, l))
string_only t (k ∷ ks) zero l e = absurd cc
string_only t (LineEnd ∷ ks) (suc m) l e = absurd cc
string_only true (k ∷ ks) (suc m) l e = ap (option_map suc) (string_only false ks m (omega (arith, l)) e)
string_only false (Quote ∷ ks) (suc zero) l e = refl
string_only false (Quote ∷ []) (suc (suc m)) l e = absurd (omega (arith, l))
string_only false (Quote ∷ (k ∷ ks)) (suc (suc m)) l e = absurd cc
string_only false (Backslash ∷ ks) (suc m) l e = ap (option_map suc) (string_only true ks m (omega (arith, l)) e)
string_only false (k ∷ ks) (suc m) l e = ap (option_map suc) (string_only false ks m (omega (arith, l)) e)

string_longest : (ks : List Class) (n : ℕ) → string_len false ks ≡ Some n → NoLonger (suc n) (Quote ∷ ks)
string_longest ks n s r zero h l e = absurd (omega (arith, h))
string_longest ks n s sorts.Quoted (suc m) h l e =
    let other = string_only false ks m (omega (arith, l)) e in
    let same : n ≡ m = cc in
    omega (arith, h, same)
string_longest ks n s _ (suc m) h l e = cc

string_none : (ks : List Class) → string_len false ks ≡ None → NoLonger 0 (Quote ∷ ks)
string_none ks s r zero h l e = absurd (omega (arith, h))
string_none ks s sorts.Quoted (suc m) h l e = let other = string_only false ks m (omega (arith, l)) e in absurd cc
string_none ks s _ (suc m) h l e = cc

-- ---- what first_piece answers is the longest piece

abbrev IsAnswer : List Class → Option (Sort × ℕ) → Type 0
IsAnswer ks None = NoLonger 0 ks
IsAnswer ks (Some x) = (x.1 ≤ length ks) × (shape x.0 (take x.1 ks) ≡ true) × NoLonger x.1 ks

word_answer : (ks : List Class) → IsAnswer (Letter ∷ ks) (first_by Letter (next_class ks) ks)
word_answer ks = (omega (arith, prefix_len-le-length (goes_on sorts.Word) ks), front_passes (goes_on sorts.Word) ks, word_longest ks)

number_answer : (ks : List Class) → IsAnswer (Digit ∷ ks) (first_by Digit (next_class ks) ks)
number_answer ks = (omega (arith, prefix_len-le-length (goes_on sorts.Number) ks), front_passes (goes_on sorts.Number) ks, number_longest ks)

negative_answer : (ks : List Class) → IsAnswer (Minus ∷ Digit ∷ ks) (first_by Minus Digit (Digit ∷ ks))
negative_answer ks = (omega (arith, prefix_len-le-length (goes_on sorts.Number) ks), negative_is ks (prefix_len (goes_on sorts.Number) ks) (front_passes (goes_on sorts.Number) ks), negative_longest ks)

comment_answer : (ks : List Class) → IsAnswer (Slash ∷ Slash ∷ ks) (first_by Slash Slash (Slash ∷ ks))
comment_answer ks = (omega (arith, prefix_len-le-length (goes_on sorts.Comment) ks), comment_is ks (prefix_len (goes_on sorts.Comment) ks) (front_passes (goes_on sorts.Comment) ks), comment_longest ks)

string_answer : (ks : List Class) (o : Option ℕ) → string_len false ks ≡ o → IsAnswer (Quote ∷ ks) (option_map (λ n. (sorts.Quoted, suc n)) o)
string_answer ks None e = string_none ks e
string_answer ks (Some n) e = let h = string_closes false ks n e in (omega (arith, h.0), h.1, string_longest ks n e)

-- the text ends behind a byte
last_answer : (k : Class) → IsAnswer (k ∷ []) (first_by k Other [])
last_answer Letter = word_answer []
last_answer Digit = number_answer []
last_answer Minus = none_end Minus no_minus
last_answer Slash = none_end Slash no_slash
last_answer Bang = none_end Bang no_bang
last_answer Quote = string_answer [] None refl
last_answer Backslash = none_end Backslash no_backslash
last_answer Other = none_end Other no_other
last_answer k = (omega arith, refl, past_end k)

two_answer : (k j : Class) (ks : List Class) → IsAnswer (k ∷ j ∷ ks) (first_by k j (j ∷ ks))
two_answer Blank j ks = (omega arith, refl, past_one Blank j ks (blank_pair j))
two_answer LineEnd j ks = (omega arith, refl, past_one LineEnd j ks (line_end_pair j))
two_answer Letter j ks = word_answer (j ∷ ks)
two_answer Digit j ks = number_answer (j ∷ ks)
two_answer Minus Digit ks = negative_answer ks
two_answer Minus Greater ks = (omega arith, refl, past_two Minus Greater ks arrow_triple)
two_answer Minus j ks = past_none Minus j ks no_minus (minus_pair j (λ e. cc) (λ e. cc))
two_answer Slash Slash ks = comment_answer ks
two_answer Slash j ks = past_none Slash j ks no_slash (slash_pair j (λ e. cc))
two_answer Less Equal ks = (omega arith, refl, past_two Less Equal ks at_most_triple)
two_answer Less j ks = (omega arith, refl, past_one Less j ks (less_pair j (λ e. cc)))
two_answer Greater Equal ks = (omega arith, refl, past_two Greater Equal ks at_least_triple)
two_answer Greater j ks = (omega arith, refl, past_one Greater j ks (greater_pair j (λ e. cc)))
two_answer Equal j ks = (omega arith, refl, past_one Equal j ks (equal_pair j))
two_answer Bang Equal ks = (omega arith, refl, past_two Bang Equal ks unequal_triple)
two_answer Bang j ks = past_none Bang j ks no_bang (bang_pair j (λ e. cc))
two_answer Bar Bar ks = (omega arith, refl, past_two Bar Bar ks bars_triple)
two_answer Bar j ks = (omega arith, refl, past_one Bar j ks (bar_pair j (λ e. cc)))
two_answer Quote j ks = string_answer (j ∷ ks) (string_len false (j ∷ ks)) refl
two_answer Backslash j ks = past_none Backslash j ks no_backslash (backslash_pair j)
two_answer Single j ks = (omega arith, refl, past_one Single j ks (single_pair j))
two_answer Other j ks = past_none Other j ks no_other (other_pair j)

answer : (ks : List Class) → IsAnswer ks (first_piece ks)
answer [] = λ r m h l e. absurd (omega (arith, h, l))
answer (k ∷ []) = last_answer k
answer (k ∷ j ∷ ks) = two_answer k j ks

-- ---- on texts

no_longer : (text : List ℕ) (n : ℕ) → NoLonger n (map class text) → (r : Sort) (m : ℕ) → n < m → m ≤ length text → piece r (take m text) ≡ true → ⊥
no_longer text n none r m h l e = none r m h (omega (arith, length-map text class, l)) (ap (shape r) (take-map class m text) ∙ e)

longest_by : (text : List ℕ) (z : Option (Sort × ℕ)) → IsAnswer (map class text) z → IfSome z (λ p. IsLongest p.0 p.1 text)
longest_by text None h = tt
longest_by text (Some p) h = record {
  within = omega (arith, length-map text class, h.0);
  is = ap (shape p.0) (sym (take-map class p.1 text)) ∙ h.1;
  longest = no_longer text p.1 h.2;
}

-- a front of no bytes is no piece
no_empty : (text : List ℕ) → NoLonger 0 (map class text) → NoPiece text
no_empty text none sorts.Blank zero l e = cc
no_empty text none _ zero l e = cc
no_empty text none r (suc m) l e = no_longer text 0 none r (suc m) (omega arith) l e

none_by : (text : List ℕ) (z : Option (Sort × ℕ)) → IsAnswer (map class text) z → IfNone z (NoPiece text)
none_by text None h = no_empty text h
none_by text (Some p) h = tt

pub some_longest : (text : List ℕ) (z : Option (Sort × ℕ)) → z ≡ first_piece (map class text) → IfSome z (λ p. IsLongest p.0 p.1 text)
some_longest text z e = longest_by text z (subst (IsAnswer (map class text)) (sym e) (answer (map class text)))

pub none_piece : (text : List ℕ) (z : Option (Sort × ℕ)) → z ≡ first_piece (map class text) → IfNone z (NoPiece text)
none_piece text z e = none_by text z (subst (IsAnswer (map class text)) (sym e) (answer (map class text)))

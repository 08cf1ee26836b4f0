-- How the first line of a text is cut from the rest.
use Rattle.std.proofs.Common.{◌≡◌, ℕ, suc, ◌+◌, ◌-◌, ◌<◌, ◌≤◌, Bool, true, false, cond, eqb, List, [], ◌∷◌, Some, None, length, take, drop, refl, sym, ap, ◌∙◌, add_assoc, arith}
use Rattle.std.specs.List.{slice_split, onto_first, position, position_or_len}
use Rattle.std.specs.Str.Lines.{strip_carriage_return}
use Rattle.std.proofs.lemmas.Bool.{ltb-true, ltb-false, ne_eqb}
use Rattle.std.proofs.lemmas.List.{length-take-le, length-drop, drop-drop, drop_all, take_rest}
use Rattle.std.proofs.lemmas.List.Sums.{fails_before_first, suffix_len-take_yes, suffix_len-take_no}
use Rattle.std.proofs.lemmas.List.Splits.{slice_split_first, slice_split_none}
use Rattle.kola_top.specs.Layout.{Line, lines_at, lines_from}

-- a blank at the end of a part goes, and another byte there stays
pub ruleset trims = (suffix_len-take_yes, suffix_len-take_no)

abbrev pub is_feed : ℕ → Bool
is_feed b = eqb b 10

abbrev pub line : List ℕ → ℕ → ℕ → Line
line bytes from next = record { bytes = bytes; from = from; next = next }

some_from_cond : (b : Bool) (m n : ℕ) → cond b (Some m) None ≡ Some n → (b ≡ true) × (m ≡ n)
some_from_cond true m n e = (refl, cc)
some_from_cond false m n e = cc

none_from_cond : (b : Bool) (m : ℕ) → cond b (Some m) None ≡ None → b ≡ false
none_from_cond true m e = cc
none_from_cond false m e = refl

-- there is always a first part
lines_at-more : (at : ℕ) (x : List ℕ) (bs : List ℕ) → lines_at at (x ∷ slice_split is_feed bs) ≡ line (strip_carriage_return x) at (at + length x + 1) ∷ lines_at (at + length x + 1) (slice_split is_feed bs)
lines_at-more at x [] = refl
lines_at-more at x (b ∷ bs) = more (eqb b 10) (slice_split is_feed bs)
  where
    more : (q : Bool) (parts : List (List ℕ)) → lines_at at (x ∷ cond q ([] ∷ parts) (onto_first b parts)) ≡ line (strip_carriage_return x) at (at + length x + 1) ∷ lines_at (at + length x + 1) (cond q ([] ∷ parts) (onto_first b parts))
    more true parts = refl
    more false [] = refl
    more false (part ∷ parts) = refl

pub lines_from-nil : (at : ℕ) → lines_from at [] ≡ []
unfolding lines_from
lines_from-nil at = refl

-- a text with a line feed
pub first_line : (at : ℕ) (text : List ℕ) (n : ℕ) → position is_feed text ≡ Some n → lines_from at text ≡ line (strip_carriage_return (take n text)) at (at + n + 1) ∷ lines_from (at + n + 1) (drop (n + 1) text)
unfolding lines_from
first_line at text n e =
    let h = some_from_cond _ _ _ e in
    let within : position_or_len is_feed text < length text = ltb-true _ _ h.0 in
    let here : position_or_len is_feed text ≡ n = h.1 in
    let parts : slice_split is_feed text ≡ take n text ∷ slice_split is_feed (drop (n + 1) text) = rw (slice_split_first is_feed text 0 within, here) refl in
    let size : length (take n text) ≡ n = length-take-le n text (omega arith) in
    rw (parts, lines_at-more at (take n text) (drop (n + 1) text), size) refl

-- a text with none
pub only_line : (at : ℕ) (text : List ℕ) → 0 < length text → position is_feed text ≡ None → lines_from at text ≡ line text at (at + length text) ∷ []
unfolding lines_from
only_line at [] h e = absurd (omega (arith, h))
only_line at (b ∷ bs) h e =
    let past = ltb-false _ _ (none_from_cond _ _ e) in
    let parts : slice_split is_feed (b ∷ bs) ≡ (b ∷ bs) ∷ [] = slice_split_none is_feed (b ∷ bs) (λ k d h. fails_before_first is_feed (b ∷ bs) k d (omega arith)) in
    let some : eqb (suc (length bs)) 0 ≡ false = ne_eqb _ _ (λ e. omega (arith, e)) in
    rw (parts, some) refl

-- the same of what is left of a job from a place on, which a slice gives as a `take` of it
module _ (job : List ℕ) (from : ℕ) where
  abbrev rest : List ℕ
  rest = take (length job - from) (drop from job)

  pub line_with_feed : (n : ℕ) (bytes : List ℕ) → position is_feed rest ≡ Some n → bytes ≡ strip_carriage_return (take n rest) → lines_from from (drop from job) ≡ line bytes from (from + n + 1) ∷ lines_from (from + n + 1) (drop (from + n + 1) job)
  line_with_feed n bytes e b =
      let whole = take_rest job from in
      let at : position is_feed (drop from job) ≡ Some n = rw (← whole) e in
      let text : bytes ≡ strip_carriage_return (take n (drop from job)) = rw (← whole) b in
      let behind : drop (n + 1) (drop from job) ≡ drop (from + n + 1) job = drop-drop (n + 1) from job ∙ ap (λ k. drop k job) (sym (add_assoc from n 1)) in
      rw (first_line from (drop from job) n at, behind, text) refl

  pub line_to_end : from < length job → position is_feed rest ≡ None → lines_from from (drop from job) ≡ line rest from (length job) ∷ lines_from (length job) (drop (length job) job)
  line_to_end h e =
      let whole = take_rest job from in
      let none : position is_feed (drop from job) ≡ None = rw (← whole) e in
      let some : 0 < length (drop from job) = simp length-drop (omega arith) in
      let size : from + length (drop from job) ≡ length job = simp length-drop (omega arith) in
      let past : drop (length job) job ≡ [] = drop_all (length job) job (omega arith) in
      rw (only_line from (drop from job) some none, size, past, lines_from-nil (length job), whole) refl

pub lines_from-past : (job : List ℕ) (from : ℕ) → length job ≤ from → lines_from from (drop from job) ≡ []
lines_from-past job from h = rw (drop_all from job h) (lines_from-nil from)

-- Walking over a string: to its end byte by byte, and over what it writes escape by escape.
use Rattle.std.proofs.Common.{◌≡◌, ℕ, zero, suc, ◌+◌, ◌*◌, ◌^◌, ◌<◌, ◌≤◌, Bool, true, false, not, cond, ◌&&◌, List, [], ◌∷◌, ◌++◌, length, get_or, map, take, drop, Option, Some, None, option_map, Ok, Err, refl, sym, ap, ◌∙◌, arith, append_assoc, ◌==◌}
use Rattle.std.specs.Result.{result_err}
use Rattle.std.specs.Char.{encode_utf8, digit_value}
use Rattle.std.proofs.lemmas.List.{drop_more, take_more, drop-drop, drop_all, length-drop, append-nil}
use Rattle.kola_base.specs.declared.class.Class.{Class}
use Rattle.kola_base.specs.Pieces.{class}
use Rattle.kola_base.specs.Scanning.{is_line_end, is_quote, is_backslash, string_len}
use Rattle.kola_base.specs.Strings.{escape, hexadecimal, Written, behind, at_escape, written, bytes_written, front}

-- ---- to the end of a string

ended : (k : Class) (ks : List Class) (t : Bool) → is_line_end k ≡ false → (not t && is_quote k) ≡ false → string_len t (k ∷ ks) ≡ option_map suc (string_len (not t && is_backslash k) ks)
ended k ks t e f = ap (λ b. cond b None (cond (not t && is_quote k) (Some 1) (option_map suc (string_len (not t && is_backslash k) ks)))) e ∙ ap (λ b. cond b (Some 1) (option_map suc (string_len (not t && is_backslash k) ks))) f

shifted : (n : ℕ) (o : Option ℕ) → option_map (λ m. n + m) (option_map suc o) ≡ option_map (λ m. n + 1 + m) o
shifted n None = refl
shifted n (Some m) = ap Some (omega arith)

-- one byte more
pub string_step : (rest : List ℕ) (at : ℕ) (t u : Bool) (k : Class) (o : Option ℕ) → at < length rest → k ≡ class (get_or rest at 0) → is_line_end k ≡ false → (not t && is_quote k) ≡ false → u ≡ (not t && is_backslash k)
    → o ≡ option_map (λ n. at + n) (string_len t (map class (drop at rest)))
    → o ≡ option_map (λ n. at + 1 + n) (string_len u (map class (drop (at + 1) rest)))
string_step rest at t u k o l is e f next h =
    h
    ∙ ap (λ bs. option_map (λ n. at + n) (string_len t (map class bs))) (drop_more rest at 0 l)
    ∙ ap (λ j. option_map (λ n. at + n) (string_len t (j ∷ map class (drop (at + 1) rest)))) (sym is)
    ∙ ap (option_map (λ n. at + n)) (ended k (map class (drop (at + 1) rest)) t e f)
    ∙ shifted at (string_len (not t && is_backslash k) (map class (drop (at + 1) rest)))
    ∙ ap (λ v. option_map (λ n. at + 1 + n) (string_len v (map class (drop (at + 1) rest)))) (sym next)

-- ---- hexadecimal digits

hexadecimal_more : (n : ℕ) (ds : List ℕ) (d : ℕ) → hexadecimal n (ds ++ d ∷ []) ≡ hexadecimal n ds * 16 + digit_value d
hexadecimal_more n [] d = refl
hexadecimal_more n (c ∷ ds) d = hexadecimal_more (n * 16 + digit_value c) ds d

-- one digit more
pub digit_step : (ds : List ℕ) (at n v : ℕ) → at < length ds → n ≡ hexadecimal 0 (take at ds) → v ≡ digit_value (get_or ds at 0) → n * 16 + v ≡ hexadecimal 0 (take (at + 1) ds)
digit_step ds at n v l e f =
    (λ i. e i * 16 + f i)
    ∙ sym (hexadecimal_more 0 (take at ds) (get_or ds at 0))
    ∙ ap (hexadecimal 0) (sym (take_more ds at 0 l))

-- six digits fit
pub digits_fit : (at n v : ℕ) → at < 6 → n < 16 ^ at → v < 16 → (n * 16 + v < 16 ^ (at + 1)) × (n * 16 + v < 16777216)
digits_fit zero n v l e f = (omega (arith, e, f), omega (arith, e, f))
digits_fit (suc zero) n v l e f = (omega (arith, e, f), omega (arith, e, f))
digits_fit (suc (suc zero)) n v l e f = (omega (arith, e, f), omega (arith, e, f))
digits_fit (suc (suc (suc zero))) n v l e f = (omega (arith, e, f), omega (arith, e, f))
digits_fit (suc (suc (suc (suc zero)))) n v l e f = (omega (arith, e, f), omega (arith, e, f))
digits_fit (suc (suc (suc (suc (suc zero))))) n v l e f = (omega (arith, e, f), omega (arith, e, f))
digits_fit (suc (suc (suc (suc (suc (suc at)))))) n v l e f = absurd (omega (arith, l))

-- ---- what a string writes

-- what is written behind a place, told from the start
abbrev pub PlaceOf : List ℕ → ℕ → Type 0
PlaceOf content at = result_err (written 0 content) ≡ option_map (λ k. at + k) (result_err (written 0 (drop at content)))

behind_twice : (m n : ℕ) (v w : List ℕ) (r : Written) → behind m v (behind n w r) ≡ behind (m + n) (v ++ w) r
behind_twice m n v w (Ok u) = ap Ok (sym (append_assoc v w u))
behind_twice m n v w (Err k) = ap Err (omega arith)

behind_none : (r : Written) → behind 0 [] r ≡ r
behind_none (Ok u) = refl
behind_none (Err k) = ap Err (omega arith)

-- bytes that are taken write nothing
skipped : (n : ℕ) (bs : List ℕ) → written n bs ≡ behind n [] (written 0 (drop n bs))
skipped zero bs = sym (behind_none (written 0 bs))
skipped (suc n) [] = refl
skipped (suc n) (b ∷ bs) = ap (behind 1 []) (skipped n bs) ∙ behind_twice 1 n [] [] (written 0 (drop n bs)) ∙ ap (λ k. behind k [] (written 0 (drop n bs))) (one_more n)
  where
    one_more : (n : ℕ) → 1 + n ≡ suc n
    one_more n = omega arith

abbrev as_front : ℕ × ℕ → ℕ × Option (List ℕ)
as_front e = (suc e.0, Some (encode_utf8 e.1))

abbrev Front : Type 0
Front = Option (ℕ × Option (List ℕ))

abbrev plain : Front
plain = Some (1, None)

-- what the first byte, or an escape, writes
abbrev pub writes : Option (List ℕ) → ℕ → List ℕ
writes (Some w) b = w
writes None b = b ∷ []

front_is : (f g : ℕ × Option (List ℕ)) → (let o : Front = Some f in o ≡ Some g) → f ≡ g
front_is f g e = cc

-- behind a backslash
escape_writes : (b : ℕ) (bs : List ℕ) (n : ℕ) (o : Option (List ℕ)) (x : Option (ℕ × ℕ)) → option_map as_front x ≡ Some (n, o) → at_escape x (λ m. written m bs) ≡ behind n (writes o b) (written 0 (drop n (b ∷ bs)))
escape_writes b bs n o None e = absurd cc
escape_writes b bs n o (Some f) e =
    let k = front_is (as_front f) (n, o) e in
    let w = encode_utf8 f.1 in
    ap (behind 1 w) (skipped f.0 bs)
    ∙ behind_twice 1 f.0 w [] (written 0 (drop f.0 bs))
    ∙ ap (λ m. behind m (w ++ []) (written 0 (drop f.0 bs))) (let i : 1 + f.0 ≡ suc f.0 = omega arith in i)
    ∙ ap (λ v. behind (suc f.0) v (written 0 (drop f.0 bs))) (append-nil w)
    ∙ ap (λ (g : ℕ × Option (List ℕ)). behind g.0 (writes g.1 b) (written 0 (drop g.0 (b ∷ bs)))) k

-- what comes first, and then the rest
pub first_writes : (b : ℕ) (bs : List ℕ) (n : ℕ) (o : Option (List ℕ)) (q : Bool) → cond q (option_map as_front (escape bs)) plain ≡ Some (n, o) → cond q (at_escape (escape bs) (λ m. written m bs)) (behind 1 (b ∷ []) (written 0 bs)) ≡ behind n (writes o b) (written 0 (drop n (b ∷ bs)))
first_writes b bs n o true e = escape_writes b bs n o (escape bs) e
first_writes b bs n o false e = ap (λ (g : ℕ × Option (List ℕ)). behind g.0 (writes g.1 b) (written 0 (drop g.0 (b ∷ bs)))) (front_is (1, None) (n, o) e)

front_writes : (bs : List ℕ) (n : ℕ) (o : Option (List ℕ)) → front bs ≡ Some (n, o) → (w : List ℕ) × (written 0 bs ≡ behind n w (written 0 (drop n bs)))
front_writes [] n o e = absurd cc
front_writes (b ∷ bs) n o e = (writes o b, first_writes b bs n o (b == 92) e)

-- what an escape writes, and then the rest
pub named_writes : (bs : List ℕ) (n : ℕ) (w : List ℕ) → front bs ≡ Some (n, Some w) → written 0 bs ≡ behind n w (written 0 (drop n bs))
named_writes [] n w e = absurd cc
named_writes (b ∷ bs) n w e = first_writes b bs n (Some w) (b == 92) e

-- a byte, and then the rest
pub byte_writes : (bs : List ℕ) (n b : ℕ) → 0 < length bs → b ≡ get_or bs 0 0 → front bs ≡ Some (n, None) → (n ≡ 1) × (written 0 bs ≡ behind 1 (b ∷ []) (written 0 (drop 1 bs)))
byte_writes [] n b l h e = absurd (omega (arith, l))
byte_writes (c ∷ bs) n b l h e = (one, first_writes c bs n None (c == 92) e ∙ (λ i. behind (one i) (h' i ∷ []) (written 0 (drop (one i) (c ∷ bs)))))
  where
    h' : c ≡ b
    h' = sym h

    at : (q : Bool) → cond q (option_map as_front (escape bs)) plain ≡ Some (n, None) → n ≡ 1
    at true e = none (escape bs) e
      where
        none : (x : Option (ℕ × ℕ)) → option_map as_front x ≡ Some (n, None) → n ≡ 1
        none None e = absurd cc
        none (Some f) e = let k = ap (λ (g : ℕ × Option (List ℕ)). g.1) (front_is (as_front f) (n, None) e) in absurd cc
    at false e = sym (ap (λ (g : ℕ × Option (List ℕ)). g.0) (front_is (1, None) (n, None) e))

    one : n ≡ 1
    one = at (c == 92) e

place_behind : (n : ℕ) (w : List ℕ) (r : Written) → result_err (behind n w r) ≡ option_map (λ k. n + k) (result_err r)
place_behind n w (Ok v) = refl
place_behind n w (Err k) = refl

places : (m n : ℕ) (o : Option ℕ) → option_map (λ k. m + k) (option_map (λ k. n + k) o) ≡ option_map (λ k. m + n + k) o
places m n None = refl
places m n (Some k) = ap Some (omega arith)

-- one more of a byte or an escape
pub place_step : (content : List ℕ) (at n : ℕ) (o : Option (List ℕ)) → front (drop at content) ≡ Some (n, o) → PlaceOf content at → PlaceOf content (at + n)
place_step content at n o e h =
    let f = front_writes (drop at content) n o e in
    h
    ∙ ap (λ r. option_map (λ k. at + k) (result_err r)) f.1
    ∙ ap (option_map (λ k. at + k)) (place_behind n f.0 (written 0 (drop n (drop at content))))
    ∙ places at n (result_err (written 0 (drop n (drop at content))))
    ∙ ap (λ bs. option_map (λ k. at + n + k) (result_err (written 0 bs))) (drop-drop n at content)

-- ---- the bytes

-- the bytes so far
abbrev pub WrittenSoFar : List ℕ → ℕ → List ℕ → Type 0
WrittenSoFar content at out = written 0 content ≡ behind at out (written 0 (drop at content))

pub written_start : (content : List ℕ) → WrittenSoFar content 0 []
written_start content = sym (behind_none (written 0 content))

pub written_step : (content : List ℕ) (at n : ℕ) (out more w : List ℕ) → WrittenSoFar content at out → more ≡ out ++ w → written 0 (drop at content) ≡ behind n w (written 0 (drop n (drop at content))) → WrittenSoFar content (at + n) more
written_step content at n out more w h e f =
    h
    ∙ ap (behind at out) f
    ∙ behind_twice at n out w (written 0 (drop n (drop at content)))
    ∙ (λ i. behind (at + n) (sym e i) (written 0 (drop-drop n at content i)))

none_behind : (n : ℕ) (w : List ℕ) (r : Written) → result_err (behind n w r) ≡ None → result_err r ≡ None
none_behind n w (Ok v) e = refl
none_behind n w (Err k) e = absurd cc

-- without a bad escape there is none further on
pub sound_behind : (content : List ℕ) (at : ℕ) (out : List ℕ) → WrittenSoFar content at out → result_err (written 0 content) ≡ None → result_err (written 0 (drop at content)) ≡ None
sound_behind content at out h e = none_behind at out (written 0 (drop at content)) (sym (ap result_err h) ∙ e)

pub written_all : (content : List ℕ) (at : ℕ) (out : List ℕ) → length content ≤ at → WrittenSoFar content at out → out ≡ bytes_written (written 0 content)
written_all content at out l h = sym (ap bytes_written (h ∙ ap (λ bs. behind at out (written 0 bs)) (drop_all at content l)) ∙ append-nil out)

-- ---- the first backslash that begins no escape

stops : (b : ℕ) (bs : List ℕ) (q : Bool) → cond q (option_map as_front (escape bs)) plain ≡ None → cond q (at_escape (escape bs) (λ m. written m bs)) (behind 1 (b ∷ []) (written 0 bs)) ≡ Err 0
stops b bs true e = at (escape bs) e
  where
    at : (x : Option (ℕ × ℕ)) → option_map as_front x ≡ None → at_escape x (λ m. written m bs) ≡ Err 0
    at None e = refl
    at (Some f) e = absurd cc
stops b bs false e = absurd cc

-- a backslash that begins no escape
pub place_found : (content : List ℕ) (at : ℕ) → at < length content → front (drop at content) ≡ None → PlaceOf content at → Some at ≡ result_err (written 0 content)
place_found content at l e h = sym (h ∙ ap (option_map (λ k. at + k)) (found (drop at content) (omega (arith, l, length-drop at content)) e) ∙ ap Some (omega arith))
  where
    found : (bs : List ℕ) → 0 < length bs → front bs ≡ None → result_err (written 0 bs) ≡ Some 0
    found [] l e = absurd (omega (arith, l))
    found (b ∷ bs) l e = ap result_err (stops b bs (b == 92) e)

-- and none to the end
pub none_found : (content : List ℕ) (at : ℕ) → length content ≤ at → PlaceOf content at → None ≡ result_err (written 0 content)
none_found content at l h = sym (h ∙ ap (λ bs. option_map (λ k. at + k) (result_err (written 0 bs))) (drop_all at content l))

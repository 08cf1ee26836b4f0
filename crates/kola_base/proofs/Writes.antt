-- What a string without a fault writes is UTF-8: its content is, an escape begins and ends with a byte of ASCII, and writes one character.
use Rattle.std.proofs.Common.{◌≡◌, ℕ, zero, suc, ◌+◌, ◌<◌, ◌≤◌, Bool, true, false, cond, ◌==◌, List, [], ◌∷◌, ◌++◌, length, get_or, take, drop, Option, Some, None, option_map, Ok, Err, refl, sym, ap, ◌∙◌, subst, arith, append_assoc, length-append}
use Rattle.std.specs.Prelude.{nat_lt, nat_le, ◌&&◌}
use Rattle.std.specs.List.{prefix_len}
use Rattle.std.specs.Char.{encode_utf8, IsScalar}
use Rattle.std.specs.Str.{IsUtf8, is_utf8}
use Rattle.std.specs.Str.Lossy.{utf8_valid_len, valid_len_up_to}
use Rattle.std.proofs.Math.Seq.{take-append_seam, drop-append_seam, get_or-append_seam}
use Rattle.std.proofs.lemmas.Bool.{ltb-false, eqb-true, cond_both}
use Rattle.std.proofs.lemmas.List.{take_all}
use Rattle.std.proofs.lemmas.Option.{cond_some}
use Rattle.std.proofs.lemmas.Str.{IsUtf8-nil, IsUtf8-append, IsUtf8-encode, IsUtf8-take, IsUtf8-drop, IsUtf8-from_is_utf8, IsCharBoundary-before_ascii, IsCharBoundary-after_ascii}
use lib.Utf8.{scalar}
use Rattle.kola_base.specs.declared.lex.LexWhy.{LexWhy}
use Rattle.kola_base.specs.Strings.{is_hex, hexadecimal, begins_with, character, named, braced, simple_escape, escape, Written, behind, at_escape, written, inside, bytes_written, first_fault, content_fault, string_value, string_fault}

-- ---- an escape

-- n bytes behind a backslash are an escape of the character c: the last of them is of ASCII
record IsEscape (bs : List ℕ) (n c : ℕ) : Type 0 where
  is : IsScalar c
  last : ℕ
  ends : n ≡ suc last
  within : last < length bs
  ascii : get_or bs last 0 < 128

chosen : {A : Type 0} (b : Bool) (o : Option A) (y : A) → cond b o None ≡ Some y → (b ≡ true) × (o ≡ Some y)
chosen true o y e = (refl, e)
chosen false o y e = absurd cc

mapped : {A B : Type 0} (f : A → B) (o : Option A) (y : B) → option_map f o ≡ Some y → (x : A) × (o ≡ Some x) × (f x ≡ y)
mapped f None y e = absurd cc
mapped f (Some x) y e = (x, refl, cc)

brace : (k : ℕ) (bs : List ℕ) → begins_with 125 (drop k bs) ≡ true → (k < length bs) × (get_or bs k 0 ≡ 125)
brace zero [] e = absurd cc
brace (suc k) [] e = absurd cc
brace zero (b ∷ bs) e = (omega arith, eqb-true b 125 e)
brace (suc k) (b ∷ bs) e = let h = brace k bs e in (omega (arith, h.0), h.1)

named_is : (a b k : ℕ) (bs : List ℕ) (e : ℕ × ℕ) → named k bs ≡ Some e → IsEscape (a ∷ b ∷ bs) e.0 e.1
named_is a b k bs e h =
    let few = chosen (nat_le 1 k && nat_le k 6) _ e h in
    let closed = chosen (begins_with 125 (drop k bs)) _ e few.1 in
    let of = mapped (λ c. (k + 3, c)) (character (hexadecimal 0 (take k bs))) e closed.1 in
    let one = cond_some (scalar (hexadecimal 0 (take k bs))) (hexadecimal 0 (take k bs)) of.0 of.1 in
    let at = brace k bs closed.0 in
    record {
      is = ap scalar (sym (one.1 ∙ ap (λ (p : ℕ × ℕ). p.1) of.2)) ∙ one.0;
      last = suc (suc k);
      ends = sym (ap (λ (p : ℕ × ℕ). p.0) of.2) ∙ (let three : k + 3 ≡ suc (suc (suc k)) = omega arith in three);
      within = omega (arith, at.0);
      ascii = omega (arith, at.1);
    }

braced_is : (a : ℕ) (bs : List ℕ) (e : ℕ × ℕ) → braced bs ≡ Some e → IsEscape (a ∷ bs) e.0 e.1
braced_is a [] e h = absurd cc
braced_is a (b ∷ bs) e h = named_is a b (prefix_len is_hex bs) bs e (chosen (b == 123) _ e h).1

-- the character and the byte of a simple escape are of ASCII
simple_is : (b c : ℕ) → simple_escape b ≡ Some c → (IsScalar c) × (b < 128)
simple_is b c h = at (b == 34) (b == 92) (b == 110) (b == 116) refl refl refl refl h
  where
    byte : (a d : ℕ) → (b == a) ≡ true → a < 128 → scalar d ≡ true → d ≡ c → (IsScalar c) × (b < 128)
    byte a d e l s i = (ap scalar (sym i) ∙ s, (let j = eqb-true b a e in omega (arith, j, l)))

    at : (p q r s : Bool) → (b == 34) ≡ p → (b == 92) ≡ q → (b == 110) ≡ r → (b == 116) ≡ s → cond p (Some 34) (cond q (Some 92) (cond r (Some 10) (cond s (Some 9) None))) ≡ Some c → (IsScalar c) × (b < 128)
    at true q r s i j k l e = byte 34 34 i (omega arith) refl cc
    at false true r s i j k l e = byte 92 92 j (omega arith) refl cc
    at false false true s i j k l e = byte 110 10 k (omega arith) refl cc
    at false false false true i j k l e = byte 116 9 l (omega arith) refl cc
    at false false false false i j k l e = absurd cc

escape_is : (bs : List ℕ) (e : ℕ × ℕ) → escape bs ≡ Some e → IsEscape bs e.0 e.1
escape_is [] e h = absurd cc
escape_is (b ∷ bs) e h = at (b == 117) h
  where
    at : (q : Bool) → cond q (braced bs) (option_map (λ c. (1, c)) (simple_escape b)) ≡ Some e → IsEscape (b ∷ bs) e.0 e.1
    at true i = braced_is b bs e i
    at false i =
        let of = mapped (λ c. (1, c)) (simple_escape b) e i in
        let one = simple_is b of.0 of.1 in
        record {
          is = ap scalar (sym (ap (λ (p : ℕ × ℕ). p.1) of.2)) ∙ one.0;
          last = 0;
          ends = sym (ap (λ (p : ℕ × ℕ). p.0) of.2);
          within = omega arith;
          ascii = one.1;
        }

-- ---- from left to right

behind_ok : (n : ℕ) (w v : List ℕ) (r : Written) → behind n w r ≡ Ok v → (u : List ℕ) × (r ≡ Ok u) × (v ≡ w ++ u)
behind_ok n w v (Ok u) e = (u, refl, cc)
behind_ok n w v (Err k) e = absurd cc

-- what n bytes further on is written is UTF-8, behind a front that the rest completes
abbrev Goes : List ℕ → Type 0
Goes bs = (n : ℕ) (p v : List ℕ) → IsUtf8 (p ++ drop n bs) → written n bs ≡ Ok v → IsUtf8 (p ++ v)

-- what comes before a byte of ASCII, and from it on
front_is : (p : List ℕ) (b : ℕ) (bs : List ℕ) → b < 128 → IsUtf8 (p ++ b ∷ bs) → IsUtf8 p × IsUtf8 (b ∷ bs)
front_is p b bs l u =
    let seam = IsCharBoundary-before_ascii (p ++ b ∷ bs) (length p) (omega (arith, length-append p (b ∷ bs))) (omega (arith, get_or-append_seam p b bs 0, l)) in
    (subst IsUtf8 (take-append_seam p (b ∷ bs)) (IsUtf8-take (p ++ b ∷ bs) (length p) u seam), subst IsUtf8 (drop-append_seam p (b ∷ bs)) (IsUtf8-drop (p ++ b ∷ bs) (length p) u seam))

behind_escape : (b : ℕ) (bs : List ℕ) (n c : ℕ) → IsEscape bs n c → IsUtf8 (b ∷ bs) → IsUtf8 (drop n bs)
behind_escape b bs n c f u =
    let past = IsUtf8-drop (b ∷ bs) (suc f.last + 1) u (IsCharBoundary-after_ascii (b ∷ bs) (suc f.last) u (omega (arith, f.within)) f.ascii) in
    let two : suc f.last + 1 ≡ suc (suc f.last) = omega arith in
    let one = subst (λ k. IsUtf8 (drop k (b ∷ bs))) two past in
    subst (λ k. IsUtf8 (drop k bs)) (sym f.ends) one

escape_goes : (b : ℕ) (bs p v : List ℕ) (o : Option (ℕ × ℕ)) → escape bs ≡ o → b ≡ 92 → IsUtf8 (p ++ b ∷ bs) → at_escape o (λ n. written n bs) ≡ Ok v → Goes bs → IsUtf8 (p ++ v)
escape_goes b bs p v None i q u e go = absurd cc
escape_goes b bs p v (Some x) i q u e go =
    let f = escape_is bs x i in
    let cut = front_is p b bs (omega (arith, q)) u in
    let k = behind_ok 1 (encode_utf8 x.1) v (written x.0 bs) e in
    let rest = go x.0 [] k.0 (behind_escape b bs x.0 x.1 f cut.1) k.1 in
    subst (λ w. IsUtf8 (p ++ w)) (sym k.2) (IsUtf8-append p (encode_utf8 x.1 ++ k.0) cut.0 (IsUtf8-append (encode_utf8 x.1) k.0 (IsUtf8-encode x.1 f.is) rest))

byte_goes : (b : ℕ) (bs p v : List ℕ) (q : Bool) → (b == 92) ≡ q → IsUtf8 (p ++ b ∷ bs) → cond q (at_escape (escape bs) (λ n. written n bs)) (behind 1 (b ∷ []) (written 0 bs)) ≡ Ok v → Goes bs → IsUtf8 (p ++ v)
byte_goes b bs p v true i u e go = escape_goes b bs p v (escape bs) refl (eqb-true b 92 i) u e go
byte_goes b bs p v false i u e go =
    let k = behind_ok 1 (b ∷ []) v (written 0 bs) e in
    let more = go 0 (p ++ b ∷ []) k.0 (subst IsUtf8 (sym (append_assoc p (b ∷ []) bs)) u) k.1 in
    subst IsUtf8 (append_assoc p (b ∷ []) k.0 ∙ ap (λ w. p ++ w) (sym k.2)) more

nothing : (p v : List ℕ) → IsUtf8 (p ++ []) → (let o : Written = Ok [] in o ≡ Ok v) → IsUtf8 (p ++ v)
nothing p v u e = let none : [] ≡ v = cc in subst (λ w. IsUtf8 (p ++ w)) none u

goes : (bs : List ℕ) → Goes bs
goes [] zero p v u e = nothing p v u e
goes [] (suc n) p v u e = nothing p v u e
goes (b ∷ bs) zero p v u e = byte_goes b bs p v (b == 92) refl u e (goes bs)
goes (b ∷ bs) (suc n) p v u e = let k = behind_ok 1 [] v (written n bs) e in subst (λ w. IsUtf8 (p ++ w)) (sym k.2) (goes bs n p k.0 u k.1)

-- ---- a whole string

valid_up_to : (bs : List ℕ) (n : ℕ) → IsUtf8 (take (valid_len_up_to bs n) bs)
valid_up_to bs zero = IsUtf8-nil
valid_up_to bs (suc n) = cond_both (is_utf8 (take (suc n) bs)) (suc n) (valid_len_up_to bs n) (λ k. IsUtf8 (take k bs)) (λ e. IsUtf8-from_is_utf8 (take (suc n) bs) e) (λ e. valid_up_to bs n)

valid : (bs : List ℕ) → length bs ≤ utf8_valid_len bs → IsUtf8 bs
unfolding utf8_valid_len
valid bs l = subst IsUtf8 (take_all (valid_len_up_to bs (length bs)) bs l) (valid_up_to bs (length bs))

content : (bs : List ℕ) (r : Written) → written 0 bs ≡ r → first_fault r (utf8_valid_len bs) (length bs) ≡ None → IsUtf8 (bytes_written r)
content bs (Err k) i e = absurd (at _ _ (nat_lt (utf8_valid_len bs) k) e)
  where
    at : (x y : ℕ × LexWhy) (q : Bool) → cond q (Some x) (Some y) ≡ None → ⊥
    at x y true e = cc
    at x y false e = cc
content bs (Ok v) i e = at _ (nat_lt (utf8_valid_len bs) (length bs)) refl e
  where
    at : (x : ℕ × LexWhy) (q : Bool) → nat_lt (utf8_valid_len bs) (length bs) ≡ q → cond q (Some x) None ≡ None → IsUtf8 v
    at x true j e = absurd cc
    at x false j e = goes bs 0 [] v (valid bs (ltb-false (utf8_valid_len bs) (length bs) j)) i

none_mapped : {A B : Type 0} (f : A → B) (o : Option A) → option_map f o ≡ None → o ≡ None
none_mapped f None e = refl
none_mapped f (Some x) e = absurd cc

pub string_utf8 : (bs : List ℕ) → string_fault bs ≡ None → IsUtf8 (string_value bs)
string_utf8 bs e = content (inside bs) (written 0 (inside bs)) refl (none_mapped _ (content_fault (inside bs)) e)

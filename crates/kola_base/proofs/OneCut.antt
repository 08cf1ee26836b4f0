-- A text has one cut: it has tokens, or a fault at one place, and not both.
use Rattle.std.proofs.Common.{◌≡◌, ℕ, zero, suc, ◌<◌, List, [], ◌∷◌, ◌++◌, length, take, drop, map, true, false, Option, Some, None, refl, sym, ap, subst, ◌∙◌, arith, inl, inr}
use Rattle.std.proofs.lemmas.Bool.{cases_lt}
use Rattle.std.proofs.lemmas.List.{length-drop}
use Rattle.kola_base.specs.declared.class.Class.{Class}
use Rattle.kola_base.specs.declared.class.Class.TheVariants.{Blank, LineEnd, Letter, Digit, Minus, Slash, Less, Greater, Equal, Bang, Bar, Quote, Single}
use Rattle.kola_base.specs.declared.scan.Sort.{Sort}
use Rattle.kola_base.specs.declared.scan.Sort.TheVariants as sorts
use Rattle.kola_base.specs.declared.lex.Token.{Token}
use Rattle.kola_base.specs.declared.lex.LexWhy.{LexWhy}
use Rattle.kola_base.specs.declared.lex.LexWhy.TheVariants.{BadByte, OpenString, NumberTooLarge, BadEscape, NotUtf8}
use Rattle.kola_base.specs.Numbers.{number_value}
use Rattle.kola_core.specs.Integers.{in_64}
use Rattle.kola_base.specs.Strings.{begins_with, string_fault}
use Rattle.kola_base.specs.Pieces.{class, shape, piece, IsLongest, NoPiece}
use Rattle.kola_base.specs.Tokens.{IsSound, Cuts, tokens_of, end_at, AreTokens, InString, IsStuck, StopsAt}

-- ---- one piece at a place

-- the only sort of a piece
abbrev sort_by : List Class → Sort
sort_by (Blank ∷ ks) = sorts.Blank
sort_by (LineEnd ∷ ks) = sorts.Blank
sort_by (Slash ∷ ks) = sorts.Comment
sort_by (Letter ∷ ks) = sorts.Word
sort_by (Digit ∷ ks) = sorts.Number
sort_by (Minus ∷ Digit ∷ ks) = sorts.Number
sort_by (Quote ∷ ks) = sorts.Quoted
sort_by _ = sorts.Sign

is_sort : (s : Sort) (ks : List Class) → shape s ks ≡ true → s ≡ sort_by ks
is_sort sorts.Blank (Blank ∷ ks) e = refl
is_sort sorts.Blank (LineEnd ∷ ks) e = refl
is_sort sorts.Comment (Slash ∷ ks) e = refl
is_sort sorts.Word (Letter ∷ ks) e = refl
is_sort sorts.Number (Digit ∷ ks) e = refl
is_sort sorts.Number (Minus ∷ Digit ∷ ks) e = refl
is_sort sorts.Quoted (Quote ∷ ks) e = refl
is_sort sorts.Sign (Single ∷ ks) e = refl
is_sort sorts.Sign (Less ∷ ks) e = refl
is_sort sorts.Sign (Greater ∷ ks) e = refl
is_sort sorts.Sign (Equal ∷ ks) e = refl
is_sort sorts.Sign (Bang ∷ ks) e = refl
is_sort sorts.Sign (Bar ∷ ks) e = refl
is_sort sorts.Sign (Minus ∷ Greater ∷ ks) e = refl
is_sort _ _ e = absurd cc

one_sort : (s r : Sort) (bs : List ℕ) → piece s bs ≡ true → piece r bs ≡ true → s ≡ r
one_sort s r bs e i = is_sort s (map class bs) e ∙ sym (is_sort r (map class bs) i)

one_length : (s r : Sort) (n m : ℕ) (text : List ℕ) → IsLongest s n text → IsLongest r m text → n ≡ m
one_length s r n m text a b = elim (cases_lt n m) [
  | inl lt ↦ absurd (a.longest r m lt b.within b.is)
  | inr le ↦ elim (cases_lt m n) [
    | inl lt ↦ absurd (b.longest s n lt a.within a.is)
    | inr ge ↦ omega arith
  ]
]

no_bytes : (s : Sort) → piece s [] ≡ true → ⊥
no_bytes sorts.Blank e = cc
no_bytes _ e = cc

-- a piece has a byte
pub has_byte : (s : Sort) (n : ℕ) (text : List ℕ) → IsLongest s n text → 0 < n
has_byte s zero text a = absurd (no_bytes s a.is)
has_byte s (suc n) text a = omega arith

-- ---- a fault, or none

sound_number : (s : Sort) (bs : List ℕ) → s ≡ sorts.Number → IsSound s bs → in_64 (number_value bs) ≡ true
sound_number s bs e h = let P : Sort → Type 0 = λ r. IsSound r bs in subst P e h

sound_string : (s : Sort) (bs : List ℕ) → s ≡ sorts.Quoted → IsSound s bs → string_fault bs ≡ None
sound_string s bs e h = let P : Sort → Type 0 = λ r. IsSound r bs in subst P e h

-- two pieces at one place are one
same_piece : (s r : Sort) (n m : ℕ) (text : List ℕ) → IsLongest s n text → IsLongest r m text → s ≡ r
same_piece s r n m text a b =
    let same = one_length s r n m text a b in
    one_sort s r (take n text) a.is (subst (λ k. piece r (take k text) ≡ true) (sym same) b.is)

-- a sound string has no fault
not_in_string : (s : Sort) (n : ℕ) (text : List ℕ) (k : ℕ) (y : LexWhy) → IsLongest s n text → IsSound s (take n text) → InString text k y → ⊥
not_in_string s n text k y a r h =
    let same = one_length s sorts.Quoted n h.0 text a h.1 in
    let here = sound_string s (take n text) (same_piece s sorts.Quoted n h.0 text a h.1) r in
    let there : string_fault (take n text) ≡ Some (k, y) = ap (λ m. string_fault (take m text)) same ∙ h.2 in
    none_some _ _ here there
  where
    none_some : (o : Option (ℕ × LexWhy)) (x : ℕ × LexWhy) → o ≡ None → o ≡ Some x → ⊥
    none_some o x e i = cc

-- where a sound piece stands, nothing is at fault
not_stuck : (s : Sort) (n : ℕ) (text : List ℕ) (k : ℕ) (y : LexWhy) → IsLongest s n text → IsSound s (take n text) → IsStuck text k y → ⊥
not_stuck s n text k BadByte a r h = h.2 s n a.within a.is
not_stuck s n text k OpenString a r h = h.1 s n a.within a.is
not_stuck s n text k NumberTooLarge a r h =
    let same = one_length s sorts.Number n h.1 text a h.2 in
    let there : in_64 (number_value (take n text)) ≡ false = ap (λ k. in_64 (number_value (take k text))) same ∙ h.3 in
    let here = sound_number s (take n text) (same_piece s sorts.Number n h.1 text a h.2) r in
    absurd cc
not_stuck s n text k BadEscape a r h = not_in_string s n text k BadEscape a r h
not_stuck s n text k NotUtf8 a r h = not_in_string s n text k NotUtf8 a r h

begun_byte : (c : ℕ) (text : List ℕ) → begins_with c text ≡ true → 0 < length text
begun_byte c [] e = absurd cc
begun_byte c (b ∷ bs) e = omega arith

-- what is stuck has a byte
pub stuck_byte : (text : List ℕ) (k : ℕ) (y : LexWhy) → IsStuck text k y → 0 < length text
stuck_byte text k BadByte h = h.1
stuck_byte text k OpenString h = begun_byte 34 text h.2
stuck_byte text k NumberTooLarge h = let n = has_byte sorts.Number h.1 text h.2 in omega (arith, n, h.2.within)
stuck_byte text k BadEscape h = let n = has_byte sorts.Quoted h.0 text h.1 in omega (arith, n, h.1.within)
stuck_byte text k NotUtf8 h = let n = has_byte sorts.Quoted h.0 text h.1 in omega (arith, n, h.1.within)

end_not_stuck : (text : List ℕ) (k : ℕ) (y : LexWhy) → text ≡ [] → IsStuck text k y → ⊥
end_not_stuck text k y e h = let n : length text ≡ 0 = ap length e in omega (arith, stuck_byte text k y h)

-- what stands at the front of a text that is stuck
data Front (text : List ℕ) (k : ℕ) (y : LexWhy) : Type 0 where
  no_byte : k ≡ 0 → NoPiece text → y ≡ BadByte → begins_with 34 text ≡ false → Front text k y
  no_end : k ≡ 0 → NoPiece text → y ≡ OpenString → begins_with 34 text ≡ true → Front text k y
  large : k ≡ 0 → (m : ℕ) → IsLongest sorts.Number m text → y ≡ NumberTooLarge → Front text k y
  inner : (m : ℕ) → IsLongest sorts.Quoted m text → string_fault (take m text) ≡ Some (k, y) → Front text k y

front_of : (text : List ℕ) (k : ℕ) (y : LexWhy) → IsStuck text k y → Front text k y
front_of text k BadByte h = no_byte h.0 h.2 refl h.3
front_of text k OpenString h = no_end h.0 h.1 refl h.2
front_of text k NumberTooLarge h = large h.0 h.1 h.2 refl
front_of text k BadEscape h = inner h.0 h.1 h.2
front_of text k NotUtf8 h = inner h.0 h.1 h.2

number_or_string : (m n : ℕ) (text : List ℕ) → IsLongest sorts.Number m text → IsLongest sorts.Quoted n text → ⊥
number_or_string m n text a b = let e = same_piece sorts.Number sorts.Quoted m n text a b in cc

pair_is : (f g : ℕ × LexWhy) → (let o : Option (ℕ × LexWhy) = Some f in o ≡ Some g) → f ≡ g
pair_is f g e = cc

one_front : (text : List ℕ) (j k : ℕ) (x y : LexWhy) → Front text j x → Front text k y → (j ≡ k) × (x ≡ y)
one_front text j k x y (no_byte a b c d) (no_byte e f g h) = (a ∙ sym e, c ∙ sym g)
one_front text j k x y (no_byte a b c d) (no_end e f g h) = absurd cc
one_front text j k x y (no_byte a b c d) (large e m f g) = absurd (b sorts.Number m f.within f.is)
one_front text j k x y (no_byte a b c d) (inner m f g) = absurd (b sorts.Quoted m f.within f.is)
one_front text j k x y (no_end a b c d) (no_byte e f g h) = absurd cc
one_front text j k x y (no_end a b c d) (no_end e f g h) = (a ∙ sym e, c ∙ sym g)
one_front text j k x y (no_end a b c d) (large e m f g) = absurd (b sorts.Number m f.within f.is)
one_front text j k x y (no_end a b c d) (inner m f g) = absurd (b sorts.Quoted m f.within f.is)
one_front text j k x y (large a m b c) (no_byte e f g h) = absurd (f sorts.Number m b.within b.is)
one_front text j k x y (large a m b c) (no_end e f g h) = absurd (f sorts.Number m b.within b.is)
one_front text j k x y (large a m b c) (large e n f g) = (a ∙ sym e, c ∙ sym g)
one_front text j k x y (large a m b c) (inner n f g) = absurd (number_or_string m n text b f)
one_front text j k x y (inner m b c) (no_byte e f g h) = absurd (f sorts.Quoted m b.within b.is)
one_front text j k x y (inner m b c) (no_end e f g h) = absurd (f sorts.Quoted m b.within b.is)
one_front text j k x y (inner m b c) (large e n f g) = absurd (number_or_string n m text f b)
one_front text j k x y (inner m b c) (inner n f g) =
    let same = one_length sorts.Quoted sorts.Quoted m n text b f in
    let both = pair_is (j, x) (k, y) (sym c ∙ ap (λ i. string_fault (take i text)) same ∙ g) in
    (ap (λ (f : ℕ × LexWhy). f.0) both, ap (λ (f : ℕ × LexWhy). f.1) both)

-- a place has one fault
one_why : (text : List ℕ) (j k : ℕ) (x y : LexWhy) → IsStuck text j x → IsStuck text k y → (j ≡ k) × (x ≡ y)
one_why text j k x y a b = one_front text j k x y (front_of text j x a) (front_of text k y b)

-- ---- one cut

-- a text that is cut to its end stops nowhere
no_both : (ps qs : List (Sort × ℕ)) (text rest : List ℕ) (k : ℕ) (y : LexWhy) → Cuts ps text [] → Cuts qs text rest → IsStuck rest k y → ⊥
no_both [] [] text rest k y a b h = end_not_stuck rest k y (sym b ∙ a) h
no_both [] (q ∷ qs) text rest k y a b h = let n : length text ≡ 0 = ap length a in omega (arith, has_byte q.0 q.1 text b.0, b.0.within)
no_both (p ∷ ps) [] text rest k y a b h = not_stuck p.0 p.1 text k y a.0 a.1 (subst (λ z. IsStuck z k y) (sym b) h)
no_both (p ∷ ps) (q ∷ qs) text rest k y a b h =
    let same = one_length p.0 q.0 p.1 q.1 text a.0 b.0 in
    no_both ps qs (drop p.1 text) rest k y a.2 (subst (λ k. Cuts qs (drop k text) rest) (sym same) b.2) h

-- and it has one list of pieces
one_cut : (ps qs : List (Sort × ℕ)) (text : List ℕ) → Cuts ps text [] → Cuts qs text [] → ps ≡ qs
one_cut [] [] text a b = refl
one_cut [] (q ∷ qs) text a b = let n : length text ≡ 0 = ap length a in absurd (omega (arith, has_byte q.0 q.1 text b.0, b.0.within))
one_cut (p ∷ ps) [] text a b = let n : length text ≡ 0 = ap length b in absurd (omega (arith, has_byte p.0 p.1 text a.0, a.0.within))
one_cut (p ∷ ps) (q ∷ qs) text a b =
    let len = one_length p.0 q.0 p.1 q.1 text a.0 b.0 in
    let sort = one_sort p.0 q.0 (take p.1 text) a.0.is (subst (λ k. piece q.0 (take k text) ≡ true) (sym len) b.0.is) in
    let rest = one_cut ps qs (drop p.1 text) a.2 (subst (λ k. Cuts qs (drop k text) []) (sym len) b.2) in
    let head : p ≡ q = λ i. (sort i, len i) in
    cc

-- pieces that lead to a fault lead to one rest
one_rest : (ps qs : List (Sort × ℕ)) (text r s : List ℕ) (j k : ℕ) (x y : LexWhy) → Cuts ps text r → Cuts qs text s → IsStuck r j x → IsStuck s k y → r ≡ s
one_rest [] [] text r s j k x y a b h i = sym a ∙ b
one_rest [] (q ∷ qs) text r s j k x y a b h i = absurd (not_stuck q.0 q.1 text j x b.0 b.1 (subst (λ z. IsStuck z j x) (sym a) h))
one_rest (p ∷ ps) [] text r s j k x y a b h i = absurd (not_stuck p.0 p.1 text k y a.0 a.1 (subst (λ z. IsStuck z k y) (sym b) i))
one_rest (p ∷ ps) (q ∷ qs) text r s j k x y a b h i =
    let same = one_length p.0 q.0 p.1 q.1 text a.0 b.0 in
    one_rest ps qs (drop p.1 text) r s j k x y a.2 (subst (λ k. Cuts qs (drop k text) s) (sym same) b.2) h i

-- ---- texts

pub one_list : (ts us : List Token) (text : List ℕ) → AreTokens ts text → AreTokens us text → ts ≡ us
one_list ts us text a b = a.are ∙ ap (λ ps. tokens_of 0 ps ++ end_at (length text) ∷ []) (one_cut a.pieces b.pieces text a.all b.all) ∙ sym b.are

pub not_both : (ts : List Token) (text : List ℕ) (at : ℕ) (why : LexWhy) → AreTokens ts text → StopsAt text at why → ⊥
not_both ts text at why a b = no_both a.pieces b.pieces text (drop b.from text) b.behind why a.all b.before b.stuck

pub one_fault : (text : List ℕ) (at to : ℕ) (x y : LexWhy) → StopsAt text at x → StopsAt text to y → (at ≡ to) × (x ≡ y)
one_fault text at to x y a b =
    let same = one_rest a.pieces b.pieces text (drop a.from text) (drop b.from text) a.behind b.behind x y a.before b.before a.stuck b.stuck in
    let m = stuck_byte (drop a.from text) a.behind x a.stuck in
    let n = stuck_byte (drop b.from text) b.behind y b.stuck in
    let l : length (drop a.from text) ≡ length (drop b.from text) = ap length same in
    let why = one_why (drop a.from text) a.behind b.behind x y a.stuck (subst (λ r. IsStuck r b.behind y) (sym same) b.stuck) in
    (omega (arith, m, n, l, length-drop a.from text, length-drop b.from text, a.is, b.is, why.0), why.1)

-- Bytes that are one token whatever follows them, perhaps with a blank: words, numbers, strings and signs.
use Rattle.std.proofs.Common.{◌≡◌, ℕ, Bool, true, List, [], ◌∷◌, ◌++◌, map, codes, refl, sym, ap, subst, ◌∙◌, append_assoc}
use Rattle.std.specs.Str.{IsUtf8}
use Rattle.std.specs.Fmt.{signed_decimal}
use Rattle.std.specs.Prelude.{ℤ}
use Rattle.kola_core.specs.Integers.{in_64}
use Rattle.kola_base.specs.declared.class.Class.{Class}
use Rattle.kola_base.specs.declared.class.Class.TheVariants.{Blank, Letter, Digit, Minus, Less, Greater, Quote, Single}
use Rattle.kola_base.specs.declared.scan.Sort.TheVariants as sorts
use Rattle.kola_base.specs.Pieces.{class, piece}
use Rattle.kola_base.specs.Scanning.{next_class, first_by}
use Rattle.kola_base.specs.Lexemes.{Lexeme, LWord, LNumber, LString, LSign}
use Rattle.kola_canon.specs.Spelling.{quoted}
use Rattle.kola_base.proofs.Printed.{Says, piece_says}
use Rattle.kola_base.proofs.Alone.{Before, opens, apart, word_alone, word_begins, less_alone, greater_alone}
use Rattle.kola_base.proofs.NumbersBack.{number_again, number_alone, number_begins}
use Rattle.kola_spelt.proofs.StringsBack.{string_again, string_sound, string_alone}

-- the bytes are the one token where what follows passes K, and their first byte passes J
pub record Token (J K : Class → Bool) (bs : List ℕ) (l : Lexeme) : Type 0 where
  pub begins : (rest : List ℕ) → Before J (bs ++ rest)
  pub goes : (rest : List ℕ) (ls : List Lexeme) → Before K rest → Says rest ls → Says (bs ++ rest) (l ∷ ls)

module _ {J : Class → Bool} where
  pub word_token : (bs : List ℕ) → J Letter ≡ true → piece sorts.Word bs ≡ true → Token J apart bs (LWord bs)
  word_token bs j h = record {
    begins = λ rest. word_begins J bs rest j h;
    goes = λ rest ls k s. piece_says sorts.Word bs rest ls (word_alone bs rest h k) tt s;
  }

  pub number_token : (z : ℤ) → J Digit ≡ true → J Minus ≡ true → in_64 z ≡ true → Token J apart (signed_decimal z) (LNumber z)
  number_token z j m h = record {
    begins = λ rest. number_begins J z rest j m h;
    goes = λ rest ls k s. subst (λ y. Says (signed_decimal z ++ rest) (LNumber y ∷ ls)) (number_again z h)
        (piece_says sorts.Number (signed_decimal z) rest ls (number_alone z rest h k) (ap in_64 (number_again z h) ∙ h) s);
  }

  pub string_token : {K : Class → Bool} (b : List ℕ) → J Quote ≡ true → IsUtf8 b → Token J K (quoted b) (LString b)
  string_token b j u = record {
    begins = λ rest. j;
    goes = λ rest ls k s. subst (λ y. Says (quoted b ++ rest) (LString y ∷ ls)) (string_again b)
        (piece_says sorts.Quoted (quoted b) rest ls (string_alone b rest) (string_sound b u) s);
  }

  pub single : {K : Class → Bool} (b : ℕ) → J Single ≡ true → class b ≡ Single → Token J K (b ∷ []) (LSign (b ∷ []))
  single {K} b j h = record {
    begins = λ rest. ap J h ∙ j;
    goes = λ rest ls k s. piece_says sorts.Sign (b ∷ []) rest ls (ap (λ c. first_by c (next_class (map class rest)) (map class rest)) h) tt s;
  }

  pub less : J Less ≡ true → Token J opens (codes "<") (LSign (codes "<"))
  less j = record { begins = λ rest. j; goes = λ rest ls k s. piece_says sorts.Sign (codes "<") rest ls (less_alone rest k) tt s }

  pub greater : J Greater ≡ true → Token J apart (codes ">") (LSign (codes ">"))
  greater j = record { begins = λ rest. j; goes = λ rest ls k s. piece_says sorts.Sign (codes ">") rest ls (greater_alone rest k) tt s }

  pub blank_before : {I K : Class → Bool} {bs : List ℕ} {l : Lexeme} → J Blank ≡ true → Token I K bs l → Token J K (32 ∷ bs) l
  blank_before {I} {K} {bs} {l} j t = record {
    begins = λ rest. j;
    goes = λ rest ls k s. piece_says sorts.Blank (32 ∷ []) (bs ++ rest) (l ∷ ls) refl tt (t.goes rest ls k s);
  }

  pub blank_behind : {K L : Class → Bool} {bs : List ℕ} {l : Lexeme} → K Blank ≡ true → Token J K bs l → Token J L (bs ++ 32 ∷ []) l
  blank_behind {K} {L} {bs} {l} e t = record {
    begins = λ rest. subst (Before J) (sym (append_assoc bs (32 ∷ []) rest)) (t.begins (32 ∷ rest));
    goes = λ rest ls k s. subst (λ x. Says x (l ∷ ls)) (sym (append_assoc bs (32 ∷ []) rest))
        (t.goes (32 ∷ rest) ls e (piece_says sorts.Blank (32 ∷ []) rest ls refl tt s));
  }

-- Bytes that spell a text of one of the values of a type, whatever follows them, and how such bytes are joined.
use Rattle.std.proofs.Common.{◌≡◌, ℕ, List, [], ◌∷◌, ◌++◌, Bool, false, length, take, drop, map, refl, sym, ap, subst, ◌∙◌, append_assoc}
use Rattle.std.proofs.Math.Seq.{take-append_seam, drop-append_seam}
use Rattle.std.proofs.lemmas.List.{take-map, drop-map, take-append-drop}
use Rattle.kola_base.specs.Alphabets.{symbol_by}
use Rattle.kola_base.specs.Lexemes.{Lexeme, LWord, LSign}
use Rattle.kola_base.specs.Placed.{Placed}
use Rattle.kola_base.specs.Signs.{sign_spelling}
use Rattle.kola_base.specs.declared.class.Class.{Class}
use Rattle.kola_base.specs.declared.sign.Sign.{Sign}
use Rattle.kola_base.proofs.Alone.{Before}
use Rattle.kola_base.proofs.Printed.{Says}
use Rattle.kola_parse.specs.Kinds.{leads}
use Rattle.kola_parse.specs.Texts.{◌·◌, ends}
use Rattle.kola_spelt.proofs.TokensSpelt.{Token}
use Rattle.oql_syntax.specs.Alphabet.{KSign, KWord, kind, query_word_named, query_word_spelling}
use Rattle.oql_syntax.specs.Grammar.{Text, ◌▸◌, at}
use Rattle.oql_syntax.specs.declared.word.QueryWord.{QueryWord}
use Rattle.oql_syntax.proofs.QuerySymbols.{is_left_out, sign_is, word_is}

-- the bytes are lexemes, whatever follows that passes K, and these are a text of some value; what they begin with passes J
pub record SpeltBy (J K : Class → Bool) (bs : List ℕ) (X : Type 0) (A : X → Text) : Type 0 where
  pub lexemes : List Lexeme
  pub begins : (rest : List ℕ) → Before K rest → Before J (bs ++ rest)
  pub goes : (rest : List ℕ) (ls : List Lexeme) → Before K rest → Says rest ls → Says (bs ++ rest) (lexemes ++ ls)
  pub spells : (w : List Placed) → map (λ (p : Placed). p.says) w ≡ lexemes → (x : X) × A x w

heads : (l m : Lexeme) (ls ms : List Lexeme) → l ∷ ls ≡ m ∷ ms → (l ≡ m) × (ls ≡ ms)
heads l m ls ms e = (cc, cc)

ended : (w : List Placed) → map (λ (p : Placed). p.says) w ≡ [] → ends w
ended [] e = tt
ended (t ∷ w) e = absurd cc

led_value : {Y X : Type 0} (P : Y → Placed → Type 0) (A : X → Text) (l : Lexeme) (ls : List Lexeme) → ((t : Placed) → t.says ≡ l → (y : Y) × P y t) → ((w : List Placed) → map (λ (p : Placed). p.says) w ≡ ls → (x : X) × A x w)
    → (w : List Placed) → map (λ (p : Placed). p.says) w ≡ l ∷ ls → (v : Y × X) × leads (P v.0) (A v.1) w
led_value P A l ls p q [] e = absurd cc
led_value P A l ls p q (t ∷ w) e =
    let h = heads t.says l (map (λ (p : Placed). p.says) w) ls e in
    let a = p t h.0 in
    let b = q w h.1 in
    ((a.0, b.0), (a.1, b.1))

-- ---- joining

-- nothing
pub nothing : {K : Class → Bool} → SpeltBy K K [] (Unit {0}) (λ u. ends)
nothing = record { lexemes = []; begins = λ rest h. h; goes = λ rest ls h s. s; spells = λ w e. (tt, ended w e) }

module _ {J K : Class → Bool} where
  -- what is made of the value
  pub as_value : {bs : List ℕ} {X Y : Type 0} {A : X → Text} {B : Y → Text} → SpeltBy J K bs X A → (f : X → Y) → ((x : X) (w : List Placed) → A x w → B (f x) w) → SpeltBy J K bs Y B
  as_value r f g = record { lexemes = r.lexemes; begins = r.begins; goes = r.goes; spells = λ w e. let v = r.spells w e in (f v.0, g v.0 w v.1) }

  -- one token
  pub token_alone : {bs : List ℕ} {l : Lexeme} {Y : Type 0} (P : Y → Placed → Type 0) → Token J K bs l → ((t : Placed) → t.says ≡ l → (y : Y) × P y t) → SpeltBy J K bs Y (λ y. leads (P y) ends)
  token_alone {bs} {l} {Y} P t p = record {
    lexemes = l ∷ [];
    begins = λ rest k. t.begins rest;
    goes = t.goes;
    spells = λ w e. let v = led_value P (λ (u : Unit {0}). ends) l [] p (λ w e. (tt, ended w e)) w e in (v.0.0, v.1);
  }

  -- a token, and then a text
  pub token_then : {I : Class → Bool} {bs cs : List ℕ} {l : Lexeme} {X Y : Type 0} {A : X → Text} (P : Y → Placed → Type 0) → Token J I bs l → ((t : Placed) → t.says ≡ l → (y : Y) × P y t) → SpeltBy I K cs X A → SpeltBy J K (bs ++ cs) (Y × X) (λ v. leads (P v.0) (A v.1))
  token_then {I} {bs} {cs} {l} {X} {Y} {A} P t p r = record {
    lexemes = l ∷ r.lexemes;
    begins = λ rest h. subst (Before J) (sym (append_assoc bs cs rest)) (t.begins (cs ++ rest));
    goes = λ rest ls h s. subst (λ x. Says x (l ∷ (r.lexemes ++ ls))) (sym (append_assoc bs cs rest)) (t.goes (cs ++ rest) (r.lexemes ++ ls) (r.begins rest h) (r.goes rest ls h s));
    spells = led_value P A l r.lexemes p r.spells;
  }

  -- a text, and then another
  pub both : {I : Class → Bool} {bs cs : List ℕ} {X Y : Type 0} {A : X → Text} {B : Y → Text} → SpeltBy J I bs X A → SpeltBy I K cs Y B → SpeltBy J K (bs ++ cs) (X × Y) (λ v. A v.0 · B v.1)
  both {I} {bs} {cs} {X} {Y} {A} {B} a b = record {
    lexemes = a.lexemes ++ b.lexemes;
    begins = λ rest h. subst (Before J) (sym (append_assoc bs cs rest)) (a.begins (cs ++ rest) (b.begins rest h));
    goes = λ rest ls h s. subst (λ x. Says x ((a.lexemes ++ b.lexemes) ++ ls)) (sym (append_assoc bs cs rest))
        (subst (Says (bs ++ (cs ++ rest))) (sym (append_assoc a.lexemes b.lexemes ls)) (a.goes (cs ++ rest) (b.lexemes ++ ls) (b.begins rest h) (b.goes rest ls h s)));
    spells = λ w e.
        let f = a.spells (take (length a.lexemes) w) (sym (take-map (λ (p : Placed). p.says) (length a.lexemes) w) ∙ ap (take (length a.lexemes)) e ∙ take-append_seam a.lexemes b.lexemes) in
        let g = b.spells (drop (length a.lexemes) w) (sym (drop-map (λ (p : Placed). p.says) (length a.lexemes) w) ∙ ap (drop (length a.lexemes)) e ∙ drop-append_seam a.lexemes b.lexemes) in
        ((f.0, g.0), record { front = take (length a.lexemes) w; back = drop (length a.lexemes) w; split = sym (take-append-drop (length a.lexemes) w); first = f.1; second = g.1 });
  }

  -- the same bytes, put together in another way
  pub regrouped : {bs cs : List ℕ} {X : Type 0} {A : X → Text} → bs ≡ cs → SpeltBy J K bs X A → SpeltBy J K cs X A
  regrouped {bs} {cs} {X} {A} e r = subst (λ z. SpeltBy J K z X A) e r

  -- ---- signs and words of queries

  -- the sign, and then a text
  pub sign_then : {I : Class → Bool} {bs cs : List ℕ} {X : Type 0} {A : X → Text} (s : Sign) → Token J I bs (LSign (sign_spelling s)) → SpeltBy I K cs X A → SpeltBy J K (bs ++ cs) X (λ x. KSign s ▸ A x)
  sign_then s t r = as_value (token_then (λ (u : Unit {0}) (p : Placed). kind p ≡ KSign s) t (λ p e. (tt, ap (symbol_by query_word_named) e ∙ sign_is s)) r) (λ v. v.1) (λ v w h. h)

  -- the word, and then a text
  pub word_then : {I : Class → Bool} {bs cs : List ℕ} {X : Type 0} {A : X → Text} (w : QueryWord) → is_left_out w ≡ false → Token J I bs (LWord (query_word_spelling w)) → SpeltBy I K cs X A → SpeltBy J K (bs ++ cs) X (λ x. KWord w ▸ A x)
  word_then w g t r = as_value (token_then (λ (u : Unit {0}) (p : Placed). kind p ≡ KWord w) t (λ p e. (tt, ap (symbol_by query_word_named) e ∙ word_is w g)) r) (λ v. v.1) (λ v w h. h)

  -- the word at its place, and then a text
  pub word_at : {I : Class → Bool} {bs cs : List ℕ} {X : Type 0} {A : X → Text} (w : QueryWord) → is_left_out w ≡ false → Token J I bs (LWord (query_word_spelling w)) → SpeltBy I K cs X A → SpeltBy J K (bs ++ cs) (ℕ × X) (λ v. at w v.0 (A v.1))
  word_at w g t r = token_then (λ (n : ℕ) (p : Placed). (kind p ≡ KWord w) × (p.at ≡ n)) t (λ p e. (p.at, (ap (symbol_by query_word_named) e ∙ word_is w g, refl))) r

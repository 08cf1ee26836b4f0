-- What reading all of a text, or a front of it, answers, for every family of readers that reads a family of languages.
use Rattle.std.proofs.Common.{◌≡◌, ◌⊎◌, inl, inr, ◌≤◌, ◌<◌, ◌+◌, ◌-◌, ℕ, suc, Bool, List, ◌++◌, length, take, drop, append_assoc, Result, Ok, Err, IfOk, IfErr, refl, sym, ap, subst, ◌∙◌, arith}
use Rattle.std.proofs.Math.Seq.{drop-append_seam}
use Rattle.std.proofs.lemmas.List.{length-append, length-drop, take-append-drop}
use Rattle.kola_base.specs.declared.lex.Token.{Token}
use Rattle.kola_base.specs.declared.lex.LexWhy.{LexWhy}
use Rattle.kola_base.specs.declared.text_fault.TextWhy.{TextWhy}
use Rattle.kola_base.specs.declared.text_fault.TextWhy.TheVariants.{Lex, Unexpected, TooDeep}
use Rattle.kola_base.specs.declared.lex.LexFault.{LexFault}
use Rattle.kola_base.specs.declared.lex.LexFault.TheVariants as lexer
use Rattle.kola_base.specs.declared.text_fault.TextFault.{TextFault}
use Rattle.kola_base.specs.declared.text_fault.TextFault.TheVariants as faults
use Rattle.kola_base.specs.Tokens.{AreTokens, StopsAt, IsFaultOf}
use Rattle.kola_base.specs.Placed.{Placed, placed, place}
use Rattle.kola_base.specs.Spelled.{Spells, FaultsAt, SyntaxAt, FaultOfText, IsFault, IsAnswer, IsFaultAnswer, FrontSpells, SyntaxFault, IsPart, IsPartFault, text_why, of_lexer, is_stopped}
use Rattle.kola_base.proofs.OneCut.{one_list, not_both}
use Rattle.kola_base.proofs.OneCut as cuts
use Rattle.kola_base.proofs.Total.{tokens_or_fault}
use Rattle.kola_base.proofs.PlacedLaws.{placed_drop, placed_length}
use Rattle.kola_parse.specs.declared.why.Why.{Why}
use Rattle.kola_parse.specs.declared.why.Why.TheVariants as why
use Rattle.kola_parse.specs.declared.stop.Stop.{Stop}
use Rattle.kola_parse.specs.declared.stop.Stop.TheVariants as stop
use Rattle.kola_parse.specs.Given.{Fails}
use Rattle.kola_parse.specs.Reader.{Answer, Fault, fault, whole}
use Rattle.kola_parse.specs.Reading.{never, Good}
use Rattle.kola_parse.specs.Faults.{Accepted, Unlimited}
use Rattle.kola_parse.proofs.FaultLaws.{no_fault, one_fault}
use Rattle.kola_parse.proofs.ReaderLaws.{ends_none, ok_is, no_ok}
use Rattle.kola_parse.proofs.GoodReaders.{whole_sound, whole_complete, whole_fault, front_fault, one_tree}

module _ {A : Type 0} (p : ℕ → List Placed → Answer Placed A) (L : ℕ → A → List Placed → Type 0) (K : A → Placed → Bool)
    (good : (d : ℕ) → Good (Unit {0}) (p d) (p (suc d)) (L d) (L (suc d)) K) (d : ℕ) (text : List ℕ) where
  -- ---- what reading answers, where l are the tokens

  pub is_found : (toks : List Token) (l : List Placed) (x : A) → AreTokens toks text → l ≡ placed text toks → whole (p d) l ≡ Ok x → Spells (L d) text x
  is_found toks l x a i e = record { tokens = toks; are = a; spells = subst (L d x) i (whole_sound p L K good d l x e) }

  is_read : (toks : List Token) (l : List Placed) (x : A) → AreTokens toks text → l ≡ placed text toks → Spells (L d) text x → whole (p d) l ≡ Ok x
  is_read toks l x a i h = whole_complete p L K good d l x (subst (L d x) (ap (placed text) (one_list h.tokens toks text h.are a) ∙ sym i) h.spells)

  -- a text that is spelled is read so
  pub is_only : (toks : List Token) (l : List Placed) (x y : A) → AreTokens toks text → l ≡ placed text toks → whole (p d) l ≡ Ok y → Spells (L d) text x → y ≡ x
  is_only toks l x y a i e h = let again = is_read toks l x a i h in cc

  pub is_none : (toks : List Token) (l : List Placed) (x : A) (f : Fault Placed) → AreTokens toks text → l ≡ placed text toks → whole (p d) l ≡ Err f → Spells (L d) text x → ⊥
  is_none toks l x f a i e h = absurd_of (sym (is_read toks l x a i h) ∙ e)
    where
      absurd_of : (let z : Result A (Fault Placed) = Ok x in z ≡ Err f) → ⊥
      absurd_of i = absurd cc

  -- a text without tokens spells nothing
  pub no_tokens : (x : A) (at : ℕ) (w : LexWhy) → StopsAt text at w → Spells (L d) text x → ⊥
  no_tokens x at w s h = not_both h.tokens text at w h.are s

  pub syntax_at : (toks : List Token) (l : List Placed) (at : ℕ) (w : Why) (r : List Placed) → AreTokens toks text → l ≡ placed text toks → whole (p d) l ≡ Err (fault w r) → at ≡ place (length text) r → SyntaxAt L d text at w
  syntax_at toks l at w r a i e k = record { tokens = toks; are = a; faults = record { fault = fault w r; first = whole_fault p L K good d (placed text toks) (fault w r) (ap (whole (p d)) (sym i) ∙ e); is_at = k; is_why = refl } }

  pub as_fault : (at : ℕ) (w : Why) → SyntaxAt L d text at w → FaultOfText L d text at (text_why w)
  as_fault at why.Unexpected h = h
  as_fault at why.TooDeep h = h

  pub is_fault : (toks : List Token) (l : List Placed) (at : ℕ) (w : Why) (r : List Placed) → AreTokens toks text → l ≡ placed text toks → whole (p d) l ≡ Err (fault w r) → at ≡ place (length text) r → FaultOfText L d text at (text_why w)
  is_fault toks l at w r a i e k = as_fault at w (syntax_at toks l at w r a i e k)

  -- ---- each text spells one tree or has one first fault

  pub one_spelled : (x y : A) → Spells (L d) text x → Spells (L d) text y → x ≡ y
  one_spelled x y h k = one_tree p L K good d d x y (placed text k.tokens) (subst (λ ts. L d x (placed text ts)) (one_list h.tokens k.tokens text h.are k.are) h.spells) k.spells

  pub no_syntax_fault : (x : A) (at : ℕ) (w : Why) → Spells (L d) text x → SyntaxAt L d text at w → ⊥
  no_syntax_fault x at w h k = no_fault (Accepted L d) (Unlimited L) (placed text k.tokens) k.faults.fault (x, subst (λ ts. L d x (placed text ts)) (one_list h.tokens k.tokens text h.are k.are) h.spells) k.faults.first

  pub spelled_or_fault : (x : A) (at : ℕ) (w : TextWhy) → Spells (L d) text x → FaultOfText L d text at w → ⊥
  spelled_or_fault x at (Lex w) h k = not_both h.tokens text at w h.are k
  spelled_or_fault x at Unexpected h k = no_syntax_fault x at why.Unexpected h k
  spelled_or_fault x at TooDeep h k = no_syntax_fault x at why.TooDeep h k

  pub same_fault : (ts : List Placed) (end at to : ℕ) (v w : Why) → FaultsAt L d ts end at v → FaultsAt L d ts end to w → (at ≡ to) × (v ≡ w)
  same_fault ts end at to v w h k =
      let same = one_fault (Accepted L d) (Unlimited L) ts h.fault k.fault h.first k.first in
      (h.is_at ∙ ap (place end) same.1 ∙ sym k.is_at, h.is_why ∙ same.0 ∙ sym k.is_why)

  pub one_syntax_fault : (at to : ℕ) (v w : Why) → SyntaxAt L d text at v → SyntaxAt L d text to w → (at ≡ to) × (v ≡ w)
  one_syntax_fault at to v w h k = same_fault (placed text k.tokens) (length text) at to v w (subst (λ ts. FaultsAt L d (placed text ts) (length text) at v) (one_list h.tokens k.tokens text h.are k.are) h.faults) k.faults

  pub one_text_fault : (at to : ℕ) (v w : TextWhy) → FaultOfText L d text at v → FaultOfText L d text to w → (at ≡ to) × (v ≡ w)
  one_text_fault at to (Lex v) (Lex w) h k = let same = cuts.one_fault text at to v w h k in (same.0, ap Lex same.1)
  one_text_fault at to (Lex v) Unexpected h k = absurd (not_both k.tokens text at v k.are h)
  one_text_fault at to (Lex v) TooDeep h k = absurd (not_both k.tokens text at v k.are h)
  one_text_fault at to Unexpected (Lex w) h k = absurd (not_both h.tokens text to w h.are k)
  one_text_fault at to TooDeep (Lex w) h k = absurd (not_both h.tokens text to w h.are k)
  one_text_fault at to Unexpected Unexpected h k = ((one_syntax_fault at to why.Unexpected why.Unexpected h k).0, refl)
  one_text_fault at to TooDeep TooDeep h k = ((one_syntax_fault at to why.TooDeep why.TooDeep h k).0, refl)
  one_text_fault at to Unexpected TooDeep h k = absurd (let e = (one_syntax_fault at to why.Unexpected why.TooDeep h k).1 in cc)
  one_text_fault at to TooDeep Unexpected h k = absurd (let e = (one_syntax_fault at to why.TooDeep why.Unexpected h k).1 in cc)

  -- the tokens of a text spell a tree, or are at fault first somewhere
  pub syntax_once : (toks : List Token) → AreTokens toks text → ((x : A) × Spells (L d) text x) ⊎ ((at : ℕ) × (w : Why) × SyntaxAt L d text at w)
  syntax_once toks a = by (whole (p d) (placed text toks)) refl
    where
      by : (z : Result A (Fault Placed)) → whole (p d) (placed text toks) ≡ z → ((x : A) × Spells (L d) text x) ⊎ ((at : ℕ) × (w : Why) × SyntaxAt L d text at w)
      by (Ok x) e = inl (x, is_found toks (placed text toks) x a refl e)
      by (Err f) e = inr (place (length text) f.rest, f.why, syntax_at toks (placed text toks) (place (length text) f.rest) f.why f.rest a refl e refl)

  pub read_once : ((x : A) × Spells (L d) text x) ⊎ ((at : ℕ) × (w : TextWhy) × FaultOfText L d text at w)
  read_once = by (tokens_or_fault text)
    where
      seen : ((x : A) × Spells (L d) text x) ⊎ ((at : ℕ) × (w : Why) × SyntaxAt L d text at w) → ((x : A) × Spells (L d) text x) ⊎ ((at : ℕ) × (w : TextWhy) × FaultOfText L d text at w)
      seen (inl h) = inl h
      seen (inr (at, w, h)) = inr (at, text_why w, as_fault at w h)

      by : ((toks : List Token) × AreTokens toks text) ⊎ ((at : ℕ) × (w : LexWhy) × StopsAt text at w) → ((x : A) × Spells (L d) text x) ⊎ ((at : ℕ) × (w : TextWhy) × FaultOfText L d text at w)
      by (inl (toks, a)) = seen (syntax_once toks a)
      by (inr (at, w, s)) = inr (at, Lex w, s)

  -- ---- what is answered, from what is found and refused

  pub lexed_fault : (f : LexFault) → IsFaultOf text f → IsFault L d text (of_lexer f)
  lexed_fault lexer.Memory h = tt
  lexed_fault (lexer.At at w) h = h

  pub stop_fault : (toks : List Token) (l : List Placed) → AreTokens toks text → l ≡ placed text toks → (s : Stop (List Placed)) → Fails s (whole (p d) l) → IsFault L d text (is_stopped (length text) s)
  stop_fault toks l a i stop.Memory e = tt
  stop_fault toks l a i (stop.Before y r) e = is_fault toks l (place (length text) r) y r a i e refl

  pub answer_only : {X : Type 0} (view : X → A) (r : Result X TextFault) → IfOk r (λ t. Spells (L d) text (view t)) → IfErr r (IsFault L d text) → (x : A) → Spells (L d) text x → IsAnswer view x r
  answer_only view (Ok y) h k x w = one_spelled (view y) x h w
  answer_only view (Err faults.Memory) h k x w = tt
  answer_only view (Err (faults.At at y)) h k x w = absurd (spelled_or_fault x at y w k)

  pub answer_at : {X : Type 0} (view : X → A) (r : Result X TextFault) → IfOk r (λ t. Spells (L d) text (view t)) → IfErr r (IsFault L d text) → (at : ℕ) (w : TextWhy) → FaultOfText L d text at w → IsFaultAnswer at w r
  answer_at view (Ok y) h k at w f = spelled_or_fault (view y) at w h f
  answer_at view (Err faults.Memory) h k at w f = tt
  answer_at view (Err (faults.At b v)) h k at w f = one_text_fault b at v w k f

-- ---- a front of the tokens from one of them on

-- what is left of a list stands behind the rest of it
drop_rest : (ts : List Placed) (from n : ℕ) (w r : List Placed) → drop from ts ≡ w ++ r → length ts ≡ n + length r → drop n ts ≡ r
drop_rest ts from n w r e l =
    let pre = take from ts ++ w in
    let is : ts ≡ pre ++ r = sym (take-append-drop from ts) ∙ ap (λ (z : List Placed). take from ts ++ z) e ∙ sym (append_assoc (take from ts) w r) in
    let size : length ts ≡ length pre + length r = ap length is ∙ length-append pre r in
    let place : n ≡ length pre = omega (arith, l, size) in
    ap (λ (k : ℕ). drop k ts) place ∙ ap (drop (length pre)) is ∙ drop-append_seam pre r

module _ (text : List ℕ) (toks : List Token) (are : AreTokens toks text) where
  -- what is left is what stands behind some token
  rest_drop : (from n : ℕ) (w r : List Placed) → from < length toks → placed text (drop from toks) ≡ w ++ r → n + length r + 1 ≡ length toks → placed text (drop n toks) ≡ r
  rest_drop from n w r l e i =
      placed_drop n toks text are (omega (arith, i)) ∙ drop_rest (placed text toks) from n w r (sym (placed_drop from toks text are l) ∙ e) (let s = placed_length toks text are in omega (arith, s, i))

  left_size : (from : ℕ) → from < length toks → length (placed text (drop from toks)) + from + 1 ≡ length toks
  left_size from l =
      let cut = ap length (placed_drop from toks text are l) ∙ length-drop from (placed text toks) in
      let all = placed_length toks text are in
      omega (arith, cut, all, l)

  -- what stands behind two tokens is the same only where they are
  same_place : (n m : ℕ) → n < length toks → m < length toks → placed text (drop n toks) ≡ placed text (drop m toks) → n ≡ m
  same_place n m l k e = let i = ap length e in let a = left_size n l in let b = left_size m k in omega (arith, a, b, i)

  module _ {A : Type 0} (p : ℕ → List Placed → Answer Placed A) (L : ℕ → A → List Placed → Type 0) (good : (d : ℕ) → Good (Unit {0}) (p d) (p (suc d)) (L d) (L (suc d)) never) (d from : ℕ) (within : from < length toks) where
    -- the tokens from that one on
    abbrev front_of : List Placed
    front_of = placed text (drop from toks)

    pub front_fits : (l r : List Placed) (x : A) → l ≡ front_of → p d l ≡ Ok (x, r) → length r + 1 ≤ length toks
    front_fits l r x i e =
        let one = (good d).low.sound l x r e in
        let size = ap length (sym i ∙ one.split) ∙ length-append one.text r in
        let left = left_size from within in
        omega (arith, size, left)

    pub front_found : (n : ℕ) (l r : List Placed) (x : A) → l ≡ front_of → p d l ≡ Ok (x, r) → n + length r + 1 ≡ length toks → FrontSpells (L d) text toks from n x
    front_found n l r x i e k =
        let one = (good d).low.sound l x r e in
        let split = sym i ∙ one.split in
        let size = ap length split ∙ length-append one.text r in
        let left = left_size from within in
        record {
          front = one.text;
          split = split ∙ ap (λ (z : List Placed). one.text ++ z) (sym (rest_drop from n one.text r within split k));
          spells = one.spells;
          within = (omega (arith, size, left, k), omega (arith, k));
        }

    front_read : (l : List Placed) (x : A) (w r : List Placed) → l ≡ w ++ r → L d x w → p d l ≡ Ok (x, r)
    front_read l x w r e h = ap (p d) e ∙ (good d).low.complete x w r h (ends_none r)

    -- a front that is spelled is read so
    pub front_only : (n : ℕ) (l r : List Placed) (x y : A) (v q : List Placed) → l ≡ front_of → p d l ≡ Ok (y, r) → n + length r + 1 ≡ length toks → front_of ≡ v ++ q → L d x v → (y ≡ x) × (placed text (drop n toks) ≡ q)
    front_only n l r x y v q i e k f h =
        let both : (let z : Answer Placed A = Ok (y, r) in z ≡ Ok (x, q)) = sym e ∙ front_read l x v q (i ∙ f) h in
        let same = ok_is (y, r) (x, q) both in
        let left : r ≡ q = ap (λ (z : A × List Placed). z.1) same in
        let one = (good d).low.sound l y r e in
        (ap (λ (z : A × List Placed). z.0) same, rest_drop from n one.text r within (sym i ∙ one.split) k ∙ left)

    pub front_none : (l : List Placed) (x : A) (v q : List Placed) (f : Fault Placed) → l ≡ front_of → p d l ≡ Err f → front_of ≡ v ++ q → L d x v → ⊥
    front_none l x v q f i e k h = no_ok (x, q) f (sym e ∙ front_read l x v q (i ∙ k) h)

    front_faults : (l : List Placed) (at : ℕ) (w : Why) (r : List Placed) → l ≡ front_of → p d l ≡ Err (fault w r) → at ≡ place (length text) r → FaultsAt L d front_of (length text) at w
    front_faults l at w r i e k = record { fault = fault w r; first = front_fault p L never good d front_of (fault w r) (ap (p d) (sym i) ∙ e); is_at = k; is_why = refl }

    as_part_fault : (at : ℕ) (w : Why) → FaultsAt L d front_of (length text) at w → SyntaxFault L d front_of (length text) at (text_why w)
    as_part_fault at why.Unexpected h = h
    as_part_fault at why.TooDeep h = h

    pub front_fault_at : (l : List Placed) (at : ℕ) (w : Why) (r : List Placed) → l ≡ front_of → p d l ≡ Err (fault w r) → at ≡ place (length text) r → SyntaxFault L d front_of (length text) at (text_why w)
    front_fault_at l at w r i e k = as_part_fault at w (front_faults l at w r i e k)

    pub part_stop_fault : (l : List Placed) → l ≡ front_of → (s : Stop (List Placed)) → Fails s (p d l) → IsPartFault L d text toks from (is_stopped (length text) s)
    part_stop_fault l i stop.Memory e = tt
    part_stop_fault l i (stop.Before y r) e = front_fault_at l (place (length text) r) y r i e refl

    pub part_stop_only : {X : Type 0} (view : X → A) (l : List Placed) → l ≡ front_of → (s : Stop (List Placed)) → Fails s (p d l) → (x : A) (v q : List Placed) → front_of ≡ v ++ q → L d x v → IsPart view x q text toks (Err (is_stopped (length text) s))
    part_stop_only view l i stop.Memory e x v q k h = tt
    part_stop_only view l i (stop.Before y r) e x v q k h = absurd (front_none l x v q (fault y r) i e k h)

    -- ---- one front is spelled, or there is one first fault

    pub one_front : (n m : ℕ) (x y : A) → FrontSpells (L d) text toks from n x → FrontSpells (L d) text toks from m y → (n ≡ m) × (x ≡ y)
    one_front n m x y h k =
        let both = sym (front_read front_of x h.front (placed text (drop n toks)) h.split h.spells) ∙ front_read front_of y k.front (placed text (drop m toks)) k.split k.spells in
        let same = ok_is (x, placed text (drop n toks)) (y, placed text (drop m toks)) both in
        (same_place n m h.within.1 k.within.1 (ap (λ (z : A × List Placed). z.1) same), ap (λ (z : A × List Placed). z.0) same)

    pub one_front_fault : (at to : ℕ) (v w : TextWhy) → SyntaxFault L d front_of (length text) at v → SyntaxFault L d front_of (length text) to w → (at ≡ to) × (v ≡ w)
    one_front_fault at to Unexpected Unexpected h k = ((same_fault p L never good d text front_of (length text) at to why.Unexpected why.Unexpected h k).0, refl)
    one_front_fault at to TooDeep TooDeep h k = ((same_fault p L never good d text front_of (length text) at to why.TooDeep why.TooDeep h k).0, refl)
    one_front_fault at to Unexpected TooDeep h k = absurd (let e = (same_fault p L never good d text front_of (length text) at to why.Unexpected why.TooDeep h k).1 in cc)
    one_front_fault at to TooDeep Unexpected h k = absurd (let e = (same_fault p L never good d text front_of (length text) at to why.TooDeep why.Unexpected h k).1 in cc)
    one_front_fault at to (Lex v) w h k = absurd h
    one_front_fault at to v (Lex w) h k = absurd k

    pub front_once : ((n : ℕ) × (x : A) × FrontSpells (L d) text toks from n x) ⊎ ((at : ℕ) × (w : TextWhy) × SyntaxFault L d front_of (length text) at w)
    front_once = by (p d front_of) refl
      where
        by : (z : Answer Placed A) → p d front_of ≡ z → ((n : ℕ) × (x : A) × FrontSpells (L d) text toks from n x) ⊎ ((at : ℕ) × (w : TextWhy) × SyntaxFault L d front_of (length text) at w)
        by (Ok x) e =
            let fits = front_fits front_of x.1 x.0 refl e in
            let n = length toks - 1 - length x.1 in
            inl (n, x.0, front_found n front_of x.1 x.0 refl e (omega (arith, fits)))
        by (Err f) e = inr (place (length text) f.rest, text_why f.why, front_fault_at front_of (place (length text) f.rest) f.why f.rest refl e refl)

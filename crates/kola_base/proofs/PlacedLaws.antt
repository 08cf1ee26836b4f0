-- What the tokens of a text say from one of them on: each but the last says one thing.
use Rattle.std.proofs.Common.{◌≡◌, ℕ, zero, suc, ◌+◌, ◌<◌, List, [], ◌∷◌, ◌++◌, length, drop, map, refl, sym, ap, ◌∙◌, arith}
use Rattle.std.proofs.lemmas.List.Elements.{All-drop}
use Rattle.kola_base.specs.declared.lex.Kind.{Kind}
use Rattle.kola_base.specs.declared.lex.Kind.TheVariants as kinds
use Rattle.kola_base.specs.declared.lex.Token.{Token}
use Rattle.kola_base.specs.Tokens.{AreTokens, Behind, InOrder, IsTokenIn, bytes_of}
use Rattle.kola_base.specs.Lexemes.{lexeme, lexemes}
use Rattle.kola_base.specs.Placed.{Placed, said_first, placed, EndsLast, AreLeft}
use Rattle.kola_base.proofs.Spans.{all_in, in_order}

-- ---- the tokens that are left

behind : (k : Kind) (ts : List Token) (P Q : Type 0) → (P → Q) → Behind k ts P → Behind k ts Q
behind kinds.End ts P Q f h = h
behind _ ts P Q f h = f h

ends_last : (n : ℕ) (ts : List Token) → InOrder n ts → EndsLast ts
ends_last n [] h = h
ends_last n (t ∷ ts) h = behind t.kind ts (InOrder t.to ts) (EndsLast ts) (ends_last t.to ts) h.1

ends_next : (k : Kind) (ts : List Token) → 0 < length ts → Behind k ts (EndsLast ts) → EndsLast ts
ends_next kinds.End ts l h = absurd (omega (arith, l, ap length h))
ends_next _ ts l h = h

ends_drop : (n : ℕ) (ts : List Token) → n < length ts → EndsLast ts → EndsLast (drop n ts)
ends_drop zero ts l h = h
ends_drop (suc n) [] l h = h
ends_drop (suc n) (t ∷ ts) l h = ends_drop n ts (omega (arith, l)) (ends_next t.kind ts (omega (arith, l)) h)

pub all_left : (ts : List Token) (text : List ℕ) → AreTokens ts text → AreLeft text ts
all_left ts text a = record { stand = all_in ts text a; ends = ends_last 0 ts (in_order ts text a) }

pub left_drop : (n : ℕ) (ts : List Token) (text : List ℕ) → n < length ts → AreLeft text ts → AreLeft text (drop n ts)
left_drop n ts text l a = record { stand = All-drop (IsTokenIn text) n ts a.stand; ends = ends_drop n ts l a.ends }

-- ---- what they say

dropped_next : (n : ℕ) (k : Kind) (bs : List ℕ) (at : ℕ) (ts : List Token) (rest : List Placed) → 0 < length ts → Behind k ts (EndsLast ts) → drop n rest ≡ drop (suc n) (said_first (lexeme k bs) at rest)
dropped_next n kinds.End bs at ts rest l h = absurd (omega (arith, l, ap length h))
dropped_next n kinds.Word bs at ts rest l h = refl
dropped_next n kinds.Number bs at ts rest l h = refl
dropped_next n kinds.Quoted bs at ts rest l h = refl
dropped_next n kinds.Sign bs at ts rest l h = refl

pub left_placed_drop : (n : ℕ) (ts : List Token) (text : List ℕ) → n < length ts → EndsLast ts → placed text (drop n ts) ≡ drop n (placed text ts)
left_placed_drop zero ts text l h = refl
left_placed_drop (suc n) [] text l h = absurd h
left_placed_drop (suc n) (t ∷ ts) text l h =
    left_placed_drop n ts text (omega (arith, l)) (ends_next t.kind ts (omega (arith, l)) h)
    ∙ dropped_next n t.kind (bytes_of text t) t.from ts (placed text ts) (omega (arith, l)) h

-- each says one thing but the end
said_length : (k : Kind) (bs : List ℕ) (at : ℕ) (ts : List Token) (rest : List Placed) → (EndsLast ts → length rest + 1 ≡ length ts) → Behind k ts (EndsLast ts) → length (said_first (lexeme k bs) at rest) ≡ length ts
said_length kinds.End bs at ts rest f h = sym (ap length h)
said_length kinds.Word bs at ts rest f h = let e = f h in omega (arith, e)
said_length kinds.Number bs at ts rest f h = let e = f h in omega (arith, e)
said_length kinds.Quoted bs at ts rest f h = let e = f h in omega (arith, e)
said_length kinds.Sign bs at ts rest f h = let e = f h in omega (arith, e)

pub left_length : (ts : List Token) (text : List ℕ) → EndsLast ts → length (placed text ts) + 1 ≡ length ts
left_length [] text h = absurd h
left_length (t ∷ ts) text h = let e = said_length t.kind (bytes_of text t) t.from ts (placed text ts) (left_length ts text) h in omega (arith, e)

-- without their places they are the lexemes of the text
says_first : (k : Kind) (bs : List ℕ) (at : ℕ) (ts : List Token) (rest : List Placed) (text : List ℕ) → (EndsLast ts → map (λ p. p.says) rest ≡ lexemes text ts) → Behind k ts (EndsLast ts) → map (λ p. p.says) (said_first (lexeme k bs) at rest) ≡ lexeme k bs ++ lexemes text ts
says_first kinds.End bs at ts rest text f h = sym (ap (lexemes text) h)
says_first kinds.Word bs at ts rest text f h = let e = f h in ap (λ ls. lexeme kinds.Word bs ++ ls) e
says_first kinds.Number bs at ts rest text f h = let e = f h in ap (λ ls. lexeme kinds.Number bs ++ ls) e
says_first kinds.Quoted bs at ts rest text f h = let e = f h in ap (λ ls. lexeme kinds.Quoted bs ++ ls) e
says_first kinds.Sign bs at ts rest text f h = let e = f h in ap (λ ls. lexeme kinds.Sign bs ++ ls) e

left_says : (ts : List Token) (text : List ℕ) → EndsLast ts → map (λ p. p.says) (placed text ts) ≡ lexemes text ts
left_says [] text h = refl
left_says (t ∷ ts) text h = says_first t.kind (bytes_of text t) t.from ts (placed text ts) text (left_says ts text) h

-- ---- the tokens of a text

pub placed_drop : (n : ℕ) (ts : List Token) (text : List ℕ) → AreTokens ts text → n < length ts → placed text (drop n ts) ≡ drop n (placed text ts)
placed_drop n ts text a l = left_placed_drop n ts text l (all_left ts text a).ends

pub placed_length : (ts : List Token) (text : List ℕ) → AreTokens ts text → length (placed text ts) + 1 ≡ length ts
placed_length ts text a = left_length ts text (all_left ts text a).ends

-- there is the end at least
pub tokens_some : (ts : List Token) (text : List ℕ) → AreTokens ts text → 0 < length ts
tokens_some ts text a = let e = placed_length ts text a in omega (arith, e)

pub placed_says : (ts : List Token) (text : List ℕ) → AreTokens ts text → map (λ p. p.says) (placed text ts) ≡ lexemes text ts
placed_says ts text a = left_says ts text (all_left ts text a).ends

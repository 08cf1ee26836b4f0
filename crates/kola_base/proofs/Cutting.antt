-- The loop over the pieces of a text.
use Rattle.std.proofs.Common.{◌≡◌, ℕ, ◌+◌, ◌≤◌, List, [], ◌∷◌, ◌++◌, length, take, drop, refl, sym, ap, subst, ◌∙◌, append_assoc, arith}
use Rattle.std.proofs.lemmas.List.{append-nil, length-drop, drop-drop, drop_all}
use Rattle.kola_base.specs.declared.scan.Sort.{Sort}
use Rattle.kola_base.specs.declared.lex.Token.{Token}
use Rattle.kola_base.specs.declared.lex.LexWhy.{LexWhy}
use Rattle.kola_base.specs.Pieces.{IsLongest}
use Rattle.kola_base.specs.Tokens.{IsSound, Cuts, kind_of, token_of, tokens_of, end_at, AreTokens, StopsAt, IsStuck}

-- the tokens so far are those of the pieces before this place
pub record CutSoFar (text : List ℕ) (out : List Token) (at : ℕ) : Type 0 where
  pub pieces : List (Sort × ℕ)
  pub cut : Cuts pieces text (drop at text)
  pub are : out ≡ tokens_of 0 pieces
  pub within : at ≤ length text

-- how many bytes the pieces have
abbrev pub total : List (Sort × ℕ) → ℕ
total [] = 0
total (p ∷ ps) = p.1 + total ps

cuts_more : (ps : List (Sort × ℕ)) (text rest : List ℕ) (s : Sort) (n : ℕ) → Cuts ps text rest → IsLongest s n rest → IsSound s (take n rest) → Cuts (ps ++ (s, n) ∷ []) text (drop n rest)
cuts_more [] text rest s n h l r = (subst (IsLongest s n) (sym h) l, subst (λ x. IsSound s (take n x)) (sym h) r, ap (drop n) h)
cuts_more (p ∷ ps) text rest s n h l r = (h.0, h.1, cuts_more ps (drop p.1 text) rest s n h.2 l r)

tokens_more : (at : ℕ) (ps : List (Sort × ℕ)) (s : Sort) (n : ℕ) → tokens_of at (ps ++ (s, n) ∷ []) ≡ tokens_of at ps ++ token_of (kind_of s) (at + total ps) (at + total ps + n)
tokens_more at [] s n = append-nil (token_of (kind_of s) at (at + n)) ∙ ap (λ k. token_of (kind_of s) k (k + n)) (omega arith)
tokens_more at (p ∷ ps) s n =
    ap (λ (x : List Token). token_of (kind_of p.0) at (at + p.1) ++ x) (tokens_more (at + p.1) ps s n)
    ∙ sym (append_assoc (token_of (kind_of p.0) at (at + p.1)) (tokens_of (at + p.1) ps) (token_of (kind_of s) (at + p.1 + total ps) (at + p.1 + total ps + n)))
    ∙ ap (λ k. (token_of (kind_of p.0) at (at + p.1) ++ tokens_of (at + p.1) ps) ++ token_of (kind_of s) k (k + n)) (omega arith)

pub cuts_length : (ps : List (Sort × ℕ)) (text rest : List ℕ) → Cuts ps text rest → length text ≡ total ps + length rest
cuts_length [] text rest h = ap length h ∙ omega arith
cuts_length (p ∷ ps) text rest h =
    let n = cuts_length ps (drop p.1 text) rest h.2 in
    omega (arith, n, length-drop p.1 text, h.0.within)

pub cut_start : (text : List ℕ) → CutSoFar text [] 0
cut_start text = record { pieces = []; cut = refl; are = refl; within = omega arith }

pub cut_more : (text : List ℕ) (out more : List Token) (at : ℕ) (s : Sort) (n : ℕ) → CutSoFar text out at → IsLongest s n (drop at text) → IsSound s (take n (drop at text)) → more ≡ out ++ token_of (kind_of s) at (at + n) → CutSoFar text more (at + n)
cut_more text out more at s n c long r m =
    let len = cuts_length c.pieces text (drop at text) c.cut in
    let at-is : 0 + total c.pieces ≡ at = omega (arith, len, length-drop at text, c.within) in
    record {
      pieces = c.pieces ++ (s, n) ∷ [];
      cut = subst (Cuts (c.pieces ++ (s, n) ∷ []) text) (drop-drop n at text) (cuts_more c.pieces text (drop at text) s n c.cut long r);
      are = m ∙ ap (λ x. x ++ token_of (kind_of s) at (at + n)) c.are ∙ sym (tokens_more 0 c.pieces s n ∙ ap (λ k. tokens_of 0 c.pieces ++ token_of (kind_of s) k (k + n)) at-is);
      within = omega (arith, long.within, length-drop at text, c.within);
    }

pub cut_all : (text : List ℕ) (out : List Token) (at : ℕ) (ts : List Token) → CutSoFar text out at → length text ≤ at → ts ≡ out ++ end_at at ∷ [] → AreTokens ts text
cut_all text out at ts c l e =
    let same : at ≡ length text = let w = c.within in omega arith in
    record {
      pieces = c.pieces;
      all = subst (Cuts c.pieces text) (drop_all at text l) c.cut;
      are = e ∙ ap (λ x. x ++ end_at at ∷ []) c.are ∙ ap (λ k. tokens_of 0 c.pieces ++ end_at k ∷ []) same;
    }

pub cut_stops : (text : List ℕ) (out : List Token) (at n : ℕ) (y : LexWhy) → CutSoFar text out at → IsStuck (drop at text) n y → StopsAt text (at + n) y
cut_stops text out at n y c h = record { pieces = c.pieces; from = at; behind = n; before = c.cut; stuck = h; is = refl }

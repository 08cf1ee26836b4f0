-- Texts that are put together from the left: what a piece says, then what the rest of the text says, and so the tokens of all of it.
use Rattle.std.proofs.Common.{◌≡◌, ℕ, ◌+◌, List, [], ◌∷◌, ◌++◌, length, take, drop, map, Option, Some, None, refl, sym, ap, subst, ◌∙◌, append_assoc, arith}
use Rattle.std.proofs.Math.Seq.{take-append_seam, drop-append_seam}
use Rattle.std.proofs.lemmas.List.{drop-drop}
use Rattle.kola_base.specs.declared.scan.Sort.{Sort}
use Rattle.kola_base.specs.declared.scan.Sort.TheVariants as sorts
use Rattle.kola_base.specs.declared.lex.Kind.{Kind}
use Rattle.kola_base.specs.declared.lex.Token.{Token}
use Rattle.kola_base.specs.Pieces.{class}
use Rattle.kola_base.specs.Scanning.{first_piece}
use Rattle.kola_base.specs.Tokens.{IsSound, Cuts, kind_of, token_of, tokens_of, end_at, AreTokens}
use Rattle.kola_base.specs.Lexemes.{Lexeme, lexeme, lexemes}
use Rattle.kola_base.specs.Placed.{Placed, placed}
use Rattle.kola_base.proofs.Longest.{some_longest}
use Rattle.kola_base.proofs.PlacedLaws.{placed_says}

-- what bytes of a sort say; blanks and comments say nothing
abbrev pub said : Option Kind → List ℕ → List Lexeme
said None bs = []
said (Some k) bs = lexeme k bs

-- what pieces of a text say
abbrev pub saying : List (Sort × ℕ) → List ℕ → List Lexeme
saying [] text = []
saying (p ∷ ps) text = said (kind_of p.0) (take p.1 text) ++ saying ps (drop p.1 text)

-- all of a text says this
pub record Says (text : List ℕ) (ls : List Lexeme) : Type 0 where
  pub pieces : List (Sort × ℕ)
  pub all : Cuts pieces text []
  pub says : saying pieces text ≡ ls

pub says_nothing : Says [] []
says_nothing = record { pieces = []; all = refl; says = refl }

-- ---- a piece in front of a text

pub piece_says : (s : Sort) (bs rest : List ℕ) (ls : List Lexeme) → first_piece (map class (bs ++ rest)) ≡ Some (s, length bs) → IsSound s bs → Says rest ls → Says (bs ++ rest) (said (kind_of s) bs ++ ls)
piece_says s bs rest ls e h r = record {
  pieces = (s, length bs) ∷ r.pieces;
  all = (some_longest (bs ++ rest) (Some (s, length bs)) (sym e), subst (IsSound s) (sym (take-append_seam bs rest)) h, subst (λ x. Cuts r.pieces x []) (sym (drop-append_seam bs rest)) r.all);
  says = (λ i. said (kind_of s) (take-append_seam bs rest i) ++ saying r.pieces (drop-append_seam bs rest i)) ∙ ap (λ x. said (kind_of s) bs ++ x) r.says;
}

-- ---- the tokens of a text say what the text says

token_says : (s : Sort) (text : List ℕ) (at n : ℕ) (ts : List Token) → lexemes text (token_of (kind_of s) at (at + n) ++ ts) ≡ said (kind_of s) (take n (drop at text)) ++ lexemes text ts
token_says sorts.Blank text at n ts = refl
token_says sorts.Comment text at n ts = refl
token_says sorts.Word text at n ts = ap (λ k. said (kind_of sorts.Word) (take k (drop at text)) ++ lexemes text ts) (omega arith)
token_says sorts.Number text at n ts = ap (λ k. said (kind_of sorts.Number) (take k (drop at text)) ++ lexemes text ts) (omega arith)
token_says sorts.Quoted text at n ts = ap (λ k. said (kind_of sorts.Quoted) (take k (drop at text)) ++ lexemes text ts) (omega arith)
token_says sorts.Sign text at n ts = ap (λ k. said (kind_of sorts.Sign) (take k (drop at text)) ++ lexemes text ts) (omega arith)

tokens_say : (ps : List (Sort × ℕ)) (text : List ℕ) (at end : ℕ) → lexemes text (tokens_of at ps ++ end_at end ∷ []) ≡ saying ps (drop at text)
tokens_say [] text at end = refl
tokens_say (p ∷ ps) text at end =
    ap (lexemes text) (append_assoc (token_of (kind_of p.0) at (at + p.1)) (tokens_of (at + p.1) ps) (end_at end ∷ []))
    ∙ token_says p.0 text at p.1 (tokens_of (at + p.1) ps ++ end_at end ∷ [])
    ∙ ap (λ x. said (kind_of p.0) (take p.1 (drop at text)) ++ x) (tokens_say ps text (at + p.1) end ∙ ap (saying ps) (sym (drop-drop p.1 at text)))

-- a text that says this has tokens that say it
pub record HasTokens (text : List ℕ) (ls : List Lexeme) : Type 0 where
  pub tokens : List Token
  pub are : AreTokens tokens text
  pub say : map (λ (p : Placed). p.says) (placed text tokens) ≡ ls

pub tokens_said : (text : List ℕ) (ls : List Lexeme) → Says text ls → HasTokens text ls
tokens_said text ls h =
    let ts = tokens_of 0 h.pieces ++ end_at (length text) ∷ [] in
    let are : AreTokens ts text = record { pieces = h.pieces; all = h.all; are = refl } in
    record { tokens = ts; are = are; say = placed_says ts text are ∙ tokens_say h.pieces text 0 (length text) ∙ h.says }

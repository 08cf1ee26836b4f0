-- What stands behind a comma in a field of a struct, for the code that reads it: a word and its colon, or else a range.
use Rattle.std.proofs.Common.{◌≡◌, ℕ, true, false, List, [], ◌∷◌, Option, Ok, Err, Some, None, refl, ap, ◌∙◌}
use Rattle.kola_base.specs.Alphabets.{word_or, symbol_by}
use Rattle.kola_base.specs.Lexemes.{Lexeme, LWord, LNumber, LString, LSign}
use Rattle.kola_base.specs.Named.{Named, name_in, name_of}
use Rattle.kola_base.specs.Placed.{Placed}
use Rattle.kola_base.specs.declared.sign.Sign.TheVariants as s
use Rattle.kola_parse.specs.declared.why.Why.TheVariants.{Unexpected}
use Rattle.kola_parse.specs.Reader.{eat_at, other_at, done, fault, ◌>>=◌}
use Rattle.oql_syntax.specs.Alphabet.{Kind, KSign, KWord, KName, kind, query_word_named}
use Rattle.oql_tree.specs.QueryTrees.{QName, QLiteral, LitBool}
use Rattle.oql_syntax.specs.QueryForms.{behind_sign, behind_colon, word_form, set_paren, parts_paren, parts_of, word_range}
use Rattle.oql_syntax.specs.QueryReaders.{Reader, Level, Next, ARange, ALabel, in_move, as_from, range_from, only_label, name_next, set_next, open_next, word_next}
use Rattle.oql_syntax.specs.declared.operand.Parts.{Parts}
use Rattle.oql_syntax.specs.declared.operand.Parts.TheVariants as parts
use Rattle.oql_syntax.specs.declared.word.QueryWord.{QueryWord}
use Rattle.oql_syntax.specs.declared.word.QueryWord.TheVariants as q

module _ (n : ℕ) (o : Option Level) (l : Named) (t : Placed) (u : List Placed) where
  name_case : (j : Kind) → behind_sign j u ≡ None → other_at (name_next n o l j) (range_from n o (done (QName l.at l.name))) t u
      ≡ (other_at (in_move n o l j) (as_from n o (done (QName l.at l.name))) t u >>= λ x. done (ARange x.0) x.1)
  name_case (KSign s.Colon) e = absurd cc
  name_case (KWord q.In) e = refl
  name_case _ e = refl

  whole_case : (p : Reader Next) (j : Kind) → behind_sign j u ≡ None → other_at (only_label l j) p t u ≡ p (t ∷ u)
  whole_case p (KSign s.Colon) e = absurd cc
  whole_case p _ e = refl

  label_case : (j : Kind) → behind_sign j u ≡ None → eat_at (only_label l j) t u ≡ Err (fault Unexpected (t ∷ u))
  label_case (KSign s.Colon) e = absurd cc
  label_case _ e = refl

  set_case : (j : Kind) → behind_sign j u ≡ None → eat_at (set_next n o l j) t u ≡ eat_at (set_paren n o l.at j) t u
  set_case (KSign s.Colon) e = absurd cc
  set_case (KSign s.Open) e = refl
  set_case _ e = refl

  parts_case : (p : Parts) (j : Kind) → behind_sign j u ≡ None → eat_at (open_next n o (parts_of p) l j) t u ≡ eat_at (parts_paren n o p j) t u
  parts_case p (KSign s.Colon) e = absurd cc
  parts_case p (KSign s.Open) e = refl
  parts_case p _ e = refl

  colon_case : (k : Kind) → kind t ≡ KSign s.Colon → word_next n o l k (t ∷ u) ≡ Ok (ALabel l, u)
  colon_case (KName x) h = rw h refl
  colon_case (KWord q.True) h = rw h refl
  colon_case (KWord q.False) h = rw h refl
  colon_case (KWord q.Set) h = rw h refl
  colon_case (KWord q.Struct) h = rw h refl
  colon_case (KWord q.Flatten) h = rw h refl
  colon_case (KWord q.Exists) h = rw h refl
  colon_case _ h = ap (λ (j : Kind). eat_at (only_label l j) t u) h

  colon_at : (k j : Kind) (r : List Placed) → kind t ≡ j → behind_sign j u ≡ Some r → word_next n o l k (t ∷ u) ≡ Ok (ALabel l, r)
  colon_at k (KSign s.Colon) r h e = colon_case k h ∙ (let i : u ≡ r = cc in ap (λ (z : List Placed). Ok (ALabel l, z)) i)
  colon_at k _ r h e = absurd cc

  no_colon_at : (k : Kind) → ((x : List ℕ) → k ≡ KName x → x ≡ l.name) → behind_sign (kind t) u ≡ None → word_next n o l k (t ∷ u) ≡ word_range n o l (word_form k) (t ∷ u)
  no_colon_at (KName x) same e = ap (λ (y : List ℕ). other_at (name_next n o l (kind t)) (range_from n o (done (QName l.at y))) t u) (same x refl) ∙ name_case (kind t) e
  no_colon_at (KWord q.True) same e = whole_case (range_from n o (done (QLiteral l.at (LitBool true)))) (kind t) e
  no_colon_at (KWord q.False) same e = whole_case (range_from n o (done (QLiteral l.at (LitBool false)))) (kind t) e
  no_colon_at (KWord q.Set) same e = set_case (kind t) e
  no_colon_at (KWord q.Struct) same e = parts_case (parts.Struct l.at) (kind t) e
  no_colon_at (KWord q.Flatten) same e = parts_case (parts.Flatten l.at) (kind t) e
  no_colon_at (KWord q.Exists) same e = parts_case (parts.SomeMember l.at) (kind t) e
  no_colon_at _ same e = label_case (kind t) e

pub colon_label : (n : ℕ) (o : Option Level) (l : Named) (k : Kind) (ts r : List Placed) → behind_colon ts ≡ Some r → word_next n o l k ts ≡ Ok (ALabel l, r)
colon_label n o l k [] r e = absurd cc
colon_label n o l k (t ∷ u) r e = colon_at n o l t u k (kind t) r refl e

end_case : (n : ℕ) (o : Option Level) (l : Named) (k : Kind) → ((x : List ℕ) → k ≡ KName x → x ≡ l.name) → word_next n o l k [] ≡ word_range n o l (word_form k) []
end_case n o l (KName x) same = ap (λ (y : List ℕ). word_next n o l (KName y) []) (same x refl)
end_case n o l (KWord q.True) same = refl
end_case n o l (KWord q.False) same = refl
end_case n o l (KWord q.Set) same = refl
end_case n o l (KWord q.Struct) same = refl
end_case n o l (KWord q.Flatten) same = refl
end_case n o l (KWord q.Exists) same = refl
end_case n o l _ same = refl

pub no_colon : (n : ℕ) (o : Option Level) (l : Named) (k : Kind) (ts : List Placed) → ((x : List ℕ) → k ≡ KName x → x ≡ l.name) → behind_colon ts ≡ None → word_next n o l k ts ≡ word_range n o l (word_form k) ts
no_colon n o l k [] same e = end_case n o l k same
no_colon n o l k (t ∷ u) same e = no_colon_at n o l t u k same e

-- ---- a name is the word as it is written

word_same : (bs x : List ℕ) (o : Option QueryWord) → word_or bs o ≡ KName x → x ≡ bs
word_same bs x (Some w) e = absurd cc
word_same bs x None e = cc

abbrev named_or : Option Named → List ℕ
named_or (Some l) = l.name
named_or None = []

says_same : (says : Lexeme) (at : ℕ) (l : Named) (x : List ℕ) → name_in says at ≡ Some l → symbol_by query_word_named says ≡ KName x → x ≡ l.name
says_same (LWord bs) at l x e h = word_same bs x (query_word_named bs) h ∙ ap named_or e
says_same (LNumber z) at l x e h = absurd cc
says_same (LString b) at l x e h = absurd cc
says_same (LSign b) at l x e h = absurd cc

pub name_same : (t : Placed) (l : Named) → name_of t ≡ Some l → (x : List ℕ) → kind t ≡ KName x → x ≡ l.name
name_same t l e x h = says_same t.says t.at l x e h

-- Each token of a text stands within it, behind the one before, and is a piece of its kind.
use Rattle.std.proofs.Common.{◌≡◌, ℕ, ◌+◌, ◌-◌, ◌<◌, ◌≤◌, List, [], ◌∷◌, ◌++◌, length, take, drop, refl, sym, ap, subst, arith, append_assoc}
use Rattle.std.specs.Prelude.{slice_range}
use Rattle.std.specs.List.{All, Contains}
use Rattle.std.proofs.lemmas.List.{length-drop, drop-drop}
use Rattle.std.proofs.lemmas.List.Elements.{All-nil, All-cons, All-append}
use Rattle.kola_base.specs.declared.scan.Sort.{Sort}
use Rattle.kola_base.specs.declared.scan.Sort.TheVariants as sorts
use Rattle.kola_base.specs.declared.lex.Kind.{Kind}
use Rattle.kola_base.specs.declared.lex.Kind.TheVariants as kinds
use Rattle.kola_base.specs.declared.lex.Token.{Token}
use Rattle.kola_base.specs.Pieces.{IsLongest}
use Rattle.kola_base.specs.Tokens.{IsSound, Cuts, kind_of, token_of, tokens_of, end_at, AreTokens, IsOfKind, IsTokenIn, InOrder}
use Rattle.kola_base.proofs.OneCut.{has_byte}
use Rattle.kola_base.proofs.Cutting.{total, cuts_length}

-- the n bytes at a place, which a piece has
module _ (text : List ℕ) (at n : ℕ) where
  bytes_are : slice_range text at (at + n) ≡ take n (drop at text)
  bytes_are = ap (λ k. take k (drop at text)) (omega arith)

  one_in : (k : Kind) → 0 < n → n ≤ length (drop at text) → IsOfKind k (take n (drop at text)) → All (IsTokenIn text) (record { kind = k; from = at; to = at + n } ∷ [])
  one_in k some within is = All-cons (IsTokenIn text) _ [] (record {
    ordered = omega arith;
    within = omega (arith, length-drop at text);
    is = subst (IsOfKind k) (sym bytes_are) is;
  }) (All-nil (IsTokenIn text))

  token_in : (s : Sort) → IsLongest s n (drop at text) → IsSound s (take n (drop at text)) → All (IsTokenIn text) (token_of (kind_of s) at (at + n))
  token_in sorts.Blank l h = All-nil (IsTokenIn text)
  token_in sorts.Comment l h = All-nil (IsTokenIn text)
  token_in sorts.Word l h = one_in kinds.Word (has_byte sorts.Word n (drop at text) l) l.within l.is
  token_in sorts.Number l h = one_in kinds.Number (has_byte sorts.Number n (drop at text) l) l.within (l.is, h)
  token_in sorts.Quoted l h = one_in kinds.Quoted (has_byte sorts.Quoted n (drop at text) l) l.within (l.is, h)
  token_in sorts.Sign l h = one_in kinds.Sign (has_byte sorts.Sign n (drop at text) l) l.within l.is

tokens_in : (ps : List (Sort × ℕ)) (at : ℕ) (text : List ℕ) → Cuts ps (drop at text) [] → All (IsTokenIn text) (tokens_of at ps)
tokens_in [] at text h = All-nil (IsTokenIn text)
tokens_in (p ∷ ps) at text h = All-append (IsTokenIn text) (token_of (kind_of p.0) at (at + p.1)) (tokens_of (at + p.1) ps)
    (token_in text at p.1 p.0 h.0 h.1)
    (tokens_in ps (at + p.1) text (subst (λ r. Cuts ps r []) (drop-drop p.1 at text) h.2))

end_in : (text : List ℕ) → IsTokenIn text (end_at (length text))
end_in text = record { ordered = omega arith; within = omega arith; is = ap (λ k. take k (drop (length text) text)) (let z : length text - length text ≡ 0 = omega arith in z) }

pub all_in : (ts : List Token) (text : List ℕ) → AreTokens ts text → All (IsTokenIn text) ts
all_in ts text a = subst (All (IsTokenIn text)) (sym a.are) (All-append (IsTokenIn text) (tokens_of 0 a.pieces) (end_at (length text) ∷ [])
    (tokens_in a.pieces 0 text a.all)
    (All-cons (IsTokenIn text) (end_at (length text)) [] (end_in text) (All-nil (IsTokenIn text))))

-- what a caller with a token of a text knows of it
pub one_of_tokens : (ts : List Token) (text : List ℕ) (t : Token) → AreTokens ts text → Contains ts t → IsTokenIn text t
one_of_tokens ts text t a c = subst (IsTokenIn text) c.2 (all_in ts text a c.0 t c.1)

-- ---- the order

order_next : (s : Sort) (m at n : ℕ) (ts : List Token) → m ≤ at → ((k : ℕ) → k ≤ at + n → InOrder k ts) → InOrder m (token_of (kind_of s) at (at + n) ++ ts)
order_next sorts.Blank m at n ts l go = go m (omega (arith, l))
order_next sorts.Comment m at n ts l go = go m (omega (arith, l))
order_next sorts.Word m at n ts l go = (l, go (at + n) (omega arith))
order_next sorts.Number m at n ts l go = (l, go (at + n) (omega arith))
order_next sorts.Quoted m at n ts l go = (l, go (at + n) (omega arith))
order_next sorts.Sign m at n ts l go = (l, go (at + n) (omega arith))

order_of : (ps : List (Sort × ℕ)) (m at end : ℕ) → m ≤ at → at + total ps ≡ end → InOrder m (tokens_of at ps ++ end_at end ∷ [])
order_of [] m at end l e = (omega (arith, l, e), refl)
order_of (p ∷ ps) m at end l e = subst (InOrder m) (sym (append_assoc (token_of (kind_of p.0) at (at + p.1)) (tokens_of (at + p.1) ps) (end_at end ∷ [])))
    (order_next p.0 m at p.1 (tokens_of (at + p.1) ps ++ end_at end ∷ []) l (λ k h. order_of ps k (at + p.1) end h (omega (arith, e))))

pub in_order : (ts : List Token) (text : List ℕ) → AreTokens ts text → InOrder 0 ts
in_order ts text a = subst (InOrder 0) (sym a.are) (order_of a.pieces 0 0 (length text) (omega arith) (let n = cuts_length a.pieces text [] a.all in omega (arith, n)))

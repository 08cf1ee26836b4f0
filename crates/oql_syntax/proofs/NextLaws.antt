-- Behind a comma in a field of a struct stands another range, or the next label and its colon.
use Rattle.std.proofs.Common.{◌≡◌, inl, inr, ℕ, Bool, true, false, List, [], ◌∷◌, ◌++◌, Option, Some, None, refl, sym, ap, subst, ◌∙◌}
use Rattle.kola_base.specs.Lexemes.{Lexeme, LWord, LNumber, LString, LSign}
use Rattle.kola_base.specs.Named.{Named, name_in, name_of, NameText}
use Rattle.kola_base.specs.Placed.{Placed}
use Rattle.kola_base.specs.Signs.{sign_named}
use Rattle.kola_base.specs.Alphabets.{word_or, sign_or}
use Rattle.kola_base.specs.declared.sign.Sign.{Sign}
use Rattle.kola_base.specs.declared.sign.Sign.TheVariants as s
use Rattle.kola_parse.specs.Kinds.{Lang}
use Rattle.kola_parse.specs.Texts.{◌·◌, ends, Nothing, Made, Led}
use Rattle.oql_syntax.specs.Alphabet.{Kind, KSign, KWord, KName, kind, query_word_named}
use Rattle.oql_syntax.specs.Grammar.{◌▸◌}
use Rattle.oql_tree.specs.QueryTrees.{LitBool, QueryTree, QName, QLiteral}
use Rattle.oql_syntax.specs.QueryReaders.{named, RangeRead, with_in, Next, ARange, ALabel}
use Rattle.oql_syntax.specs.declared.word.QueryWord.{QueryWord}
use Rattle.oql_syntax.specs.declared.word.QueryWord.TheVariants as q
use Rattle.oql_syntax.proofs.QuerySymbols.{Ahead, no_text}
use Rattle.oql_syntax.proofs.LevelLaws.{Texts, Inner, Nowhere, Level_of, Deeper, Sets, SetIn, StructIn, FlattenIn, SomeIn, PrimRest}
use Rattle.oql_syntax.proofs.RangeLaws.{AsFrom, InRest, RangeRest, Range, RangeFrom, NameNext, OnlyLabel, WholeNext, SetNext, OpenNext, WordNext, NextRest, NextText}
use Rattle.oql_syntax.proofs.FirstParts.{as_first, ahead_out, ahead_into}

-- a range, or a label and its colon
abbrev pub NextIs : ℕ → Inner → Lang Placed Next
NextIs n l (ARange r) = Range n l r
NextIs n l (ALabel x) = NameText x · KSign s.Colon ▸ ends

-- ---- words

-- a word or a name
abbrev is_word_kind : Kind → Bool
is_word_kind (KWord w) = true
is_word_kind (KName x) = true
is_word_kind _ = false

word_or_is : (bs : List ℕ) (o : Option QueryWord) → is_word_kind (word_or bs o) ≡ true
word_or_is bs (Some w) = refl
word_or_is bs None = refl

named_is_word : (l : Lexeme) (at : ℕ) (x : Named) → name_in l at ≡ Some x → is_word_kind (kind (record { says = l; at = at })) ≡ true
named_is_word (LWord bs) at x e = word_or_is bs (query_word_named bs)
named_is_word (LNumber z) at x e = absurd cc
named_is_word (LString b) at x e = absurd cc
named_is_word (LSign b) at x e = absurd cc

word_name : (bs y : List ℕ) (o : Option QueryWord) → word_or bs o ≡ KName y → bs ≡ y
word_name bs y (Some w) e = absurd cc
word_name bs y None e = cc

sign_no_name : (o : Option Sign) (y : List ℕ) → sign_or {W = QueryWord} o ≡ KName y → ⊥
sign_no_name (Some r) y e = absurd cc
sign_no_name None y e = absurd cc

-- a name is named so
name_is : (l : Lexeme) (at : ℕ) (y : List ℕ) → kind (record { says = l; at = at }) ≡ KName y → name_in l at ≡ Some (named y at)
name_is (LWord bs) at y e = ap (λ (z : List ℕ). Some (named z at)) (word_name bs y (query_word_named bs) e)
name_is (LNumber z) at y e = absurd cc
name_is (LString b) at y e = absurd cc
name_is (LSign b) at y e = absurd (sign_no_name (sign_named b) y e)

place_is : (l : Lexeme) (at : ℕ) (x : Named) → name_in l at ≡ Some x → x.at ≡ at
place_is (LWord bs) at x e = let i : named bs at ≡ x = cc in sym (ap (λ (z : Named). z.at) i)
place_is (LNumber z) at x e = absurd cc
place_is (LString b) at x e = absurd cc
place_is (LSign b) at x e = absurd cc

same_name : (x y : Named) → (let o : Option Named = Some x in o ≡ Some y) → x ≡ y
same_name x y e = cc

name_some : (x : Named) (o : Option Named) → o ≡ Some x → o ≡ None → ⊥
name_some x (Some y) e i = absurd cc
name_some x None e i = absurd cc

-- ---- ranges by their first operands

pub no_as : (n : ℕ) (l : Inner) (r : RangeRead) (w : List Placed) → AsFrom n l no_text r w → ⊥
no_as n l r w h = ((as_first n l).part no_text r w h).2

pub as_range : (n : ℕ) (l : Inner) (k : Kind) (at : ℕ) (r : RangeRead) (w : List Placed) → AsFrom n l (PrimRest l k at) r w → RangeRest n l k at r w
as_range n l (KName x) at r w h = inr h
as_range n l k at r w h = h

as_open : (n : ℕ) (l : Inner) (P : Lang Placed QueryTree) (r : RangeRead) (u : Placed) (w : List Placed) → kind u ≡ KSign s.Open → AsFrom n l P r w → AsFrom n l (Ahead (KSign s.Open) P) r (u ∷ w)
as_open n l P r u w e h = ahead_out (as_first n l) (KSign s.Open) P u r w e h

-- ---- what stands there is a range or a label

module _ (n : ℕ) (l : Inner) (x : Named) (t : Placed) (named_so : name_of t ≡ Some x) where
  at_is : x.at ≡ t.at
  at_is = place_is t.says t.at x named_so

  a_label : (u : Placed) (w : List Placed) → kind u ≡ KSign s.Colon → (c : Next) → Nothing (ALabel x) c w → NextIs n l c (t ∷ u ∷ w)
  a_label u w e c h = subst (λ d. NextIs n l d (t ∷ u ∷ w)) (sym h.0) (record { front = t ∷ []; back = u ∷ w; split = refl; first = (named_so, tt); second = (e, h.1) })

  a_range : (k : Kind) → kind t ≡ k → (c : Next) (w : List Placed) → Made ARange (AsFrom n l (PrimRest l k t.at)) c w → NextIs n l c (t ∷ w)
  a_range k e c w h = subst (λ d. NextIs n l d (t ∷ w)) (sym h.is) (subst (λ j. RangeRest n l j t.at h.part w) (sym e) (as_range n l k t.at h.part w h.spells))

  only_to : (c : Next) (u : Placed) (w : List Placed) (j : Kind) → kind u ≡ j → OnlyLabel x j c w → NextIs n l c (t ∷ u ∷ w)
  only_to c u w (KSign s.Colon) e h = a_label u w e c h
  only_to c u w _ e h = absurd h

  only_all : (c : Next) (w : List Placed) → Led (λ u. OnlyLabel x (kind u)) c w → NextIs n l c (t ∷ w)
  only_all c [] h = absurd h
  only_all c (u ∷ w) h = only_to c u w (kind u) refl h

  whole_to : (k : Kind) (e : QueryTree) → kind t ≡ k → ((y : QueryTree) (v : List Placed) → Nothing e y v → PrimRest l k t.at y v) → (c : Next) (w : List Placed) → WholeNext n l x e c w → NextIs n l c (t ∷ w)
  whole_to k e i go c w (inl h) = only_all c w h
  whole_to k e i go c w (inr h) = a_range k i c w (record { part = h.part; is = h.is; spells = (as_first n l).map (Nothing e) (PrimRest l k t.at) go h.part w h.spells })

  name_to : (y : List ℕ) → kind t ≡ KName y → (c : Next) (u : Placed) (w : List Placed) (j : Kind) → kind u ≡ j → NameNext n l x j c w → NextIs n l c (t ∷ u ∷ w)
  name_to y i c u w (KSign s.Colon) e h = a_label u w e c h
  name_to y i c u w (KWord q.In) e h =
      let same = same_name x (named y t.at) (sym named_so ∙ name_is t.says t.at y i) in
      let range : InRest n l (named y t.at) (KWord q.In) h.part w = subst (λ z. InRest n l z (KWord q.In) h.part w) same h.spells in
      subst (λ d. NextIs n l d (t ∷ u ∷ w)) (sym h.is) (subst (λ k. RangeRest n l k t.at h.part (u ∷ w)) (sym i) (inl (subst (λ k. InRest n l (named y t.at) k h.part w) (sym e) range)))
  name_to y i c u w _ e h = absurd h

  open_to : (F : ℕ → Texts → Lang Placed QueryTree) (k : Kind) → kind t ≡ k
      → ((r : RangeRead) (u : Placed) (w : List Placed) → kind u ≡ KSign s.Open → Deeper l (λ L. AsFrom n l (F x.at L)) r w → AsFrom n l (PrimRest l k t.at) r (u ∷ w))
      → (c : Next) (u : Placed) (w : List Placed) (j : Kind) → kind u ≡ j → OpenNext n l (F x.at) x j c w → NextIs n l c (t ∷ u ∷ w)
  open_to F k i go c u w (KSign s.Colon) e h = a_label u w e c h
  open_to F k i go c u w (KSign s.Open) e h = by l refl h
    where
      by : (m : Inner) → l ≡ m → Deeper m (λ L. RangeFrom n l (F x.at L)) c w → NextIs n l c (t ∷ u ∷ w)
      by Nowhere f g = absurd g
      by (Level_of L) f g = a_range k i c (u ∷ w) (record { part = g.part; is = g.is; spells = go g.part u w e (subst (λ m. Deeper m (λ L. AsFrom n l (F x.at L)) g.part w) (sym f) g.spells) })
  open_to F k i go c u w _ e h = absurd h

  deep_range : (F : ℕ → Texts → Lang Placed QueryTree) (m : Inner) (p : ℕ) (r : RangeRead) (u : Placed) (w : List Placed) → kind u ≡ KSign s.Open → Deeper m (λ L. AsFrom n l (F p L)) r w → AsFrom n l (Deeper m (λ L. Ahead (KSign s.Open) (F p L))) r (u ∷ w)
  deep_range F Nowhere p r u w e h = absurd h
  deep_range F (Level_of L) p r u w e h = as_open n l (F p L) r u w e h

  deep_at : (F : ℕ → Texts → Lang Placed QueryTree) (r : RangeRead) (u : Placed) (w : List Placed) → kind u ≡ KSign s.Open → Deeper l (λ L. AsFrom n l (F x.at L)) r w → AsFrom n l (Deeper l (λ L. Ahead (KSign s.Open) (F t.at L))) r (u ∷ w)
  deep_at F r u w e h = subst (λ (p : ℕ). AsFrom n l (Deeper l (λ L. Ahead (KSign s.Open) (F p L))) r (u ∷ w)) at_is (deep_range F l x.at r u w e h)

  set_to : kind t ≡ KWord q.Set → (c : Next) (u : Placed) (w : List Placed) (j : Kind) → kind u ≡ j → SetNext n l x j c w → NextIs n l c (t ∷ u ∷ w)
  set_to i c u w (KSign s.Colon) e h = a_label u w e c h
  set_to i c u w (KSign s.Open) e h =
      a_range (KWord q.Set) i c (u ∷ w) (record { part = h.part; is = h.is; spells = subst (λ (p : ℕ). AsFrom n l (Ahead (KSign s.Open) (SetIn p)) h.part (u ∷ w)) at_is (as_open n l (SetIn x.at) h.part u w e h.spells) })
  set_to i c u w _ e h = absurd h

  word_to : (k : Kind) → kind t ≡ k → (c : Next) (w : List Placed) → WordNext n l x k c w → NextIs n l c (t ∷ w)
  word_to (KName y) i c [] (inl h) = absurd h
  word_to (KName y) i c (u ∷ w) (inl h) = name_to y i c u w (kind u) refl h
  word_to (KName y) i c w (inr h) =
      a_range (KName y) i c w (record { part = h.part; is = h.is; spells = (as_first n l).map (Nothing (QName x.at y)) (Nothing (QName t.at y)) (λ z v f. (f.0 ∙ ap (λ (p : ℕ). QName p y) at_is, f.1)) h.part w h.spells })
  word_to (KWord q.True) i c w h = whole_to (KWord q.True) (QLiteral x.at (LitBool true)) i (λ z v f. (f.0 ∙ ap (λ (p : ℕ). QLiteral p (LitBool true)) at_is, f.1)) c w h
  word_to (KWord q.False) i c w h = whole_to (KWord q.False) (QLiteral x.at (LitBool false)) i (λ z v f. (f.0 ∙ ap (λ (p : ℕ). QLiteral p (LitBool false)) at_is, f.1)) c w h
  word_to (KWord q.Set) i c [] h = absurd h
  word_to (KWord q.Set) i c (u ∷ w) h = set_to i c u w (kind u) refl h
  word_to (KWord q.Struct) i c [] h = absurd h
  word_to (KWord q.Struct) i c (u ∷ w) h = open_to StructIn (KWord q.Struct) i (deep_at StructIn) c u w (kind u) refl h
  word_to (KWord q.Flatten) i c [] h = absurd h
  word_to (KWord q.Flatten) i c (u ∷ w) h = open_to FlattenIn (KWord q.Flatten) i (deep_at FlattenIn) c u w (kind u) refl h
  word_to (KWord q.Exists) i c [] h = absurd h
  word_to (KWord q.Exists) i c (u ∷ w) h = open_to SomeIn (KWord q.Exists) i (deep_at SomeIn) c u w (kind u) refl h
  word_to _ i c w h = only_all c w h

  -- ---- and a range or a label stands there

  label_from : (k : Kind) (u : Placed) (w : List Placed) → kind u ≡ KSign s.Colon → ends w → WordNext n l x k (ALabel x) (u ∷ w)
  label_from (KName y) u w e h = inl (subst (λ j. NameNext n l x j (ALabel x) w) (sym e) (refl, h))
  label_from (KWord q.True) u w e h = inl (subst (λ j. OnlyLabel x j (ALabel x) w) (sym e) (refl, h))
  label_from (KWord q.False) u w e h = inl (subst (λ j. OnlyLabel x j (ALabel x) w) (sym e) (refl, h))
  label_from (KWord q.Set) u w e h = subst (λ j. SetNext n l x j (ALabel x) w) (sym e) (refl, h)
  label_from (KWord q.Struct) u w e h = subst (λ j. OpenNext n l (StructIn x.at) x j (ALabel x) w) (sym e) (refl, h)
  label_from (KWord q.Flatten) u w e h = subst (λ j. OpenNext n l (FlattenIn x.at) x j (ALabel x) w) (sym e) (refl, h)
  label_from (KWord q.Exists) u w e h = subst (λ j. OpenNext n l (SomeIn x.at) x j (ALabel x) w) (sym e) (refl, h)
  label_from _ u w e h = subst (λ j. OnlyLabel x j (ALabel x) w) (sym e) (refl, h)

  in_from : (y : List ℕ) → kind t ≡ KName y → (r : RangeRead) (w : List Placed) (j : Kind) → InRest n l (named y t.at) j r w → NameNext n l x j (ARange r) w
  in_from y i r w (KWord q.In) h =
      let same = same_name x (named y t.at) (sym named_so ∙ name_is t.says t.at y i) in
      record { part = r; is = refl; spells = subst (λ z. Made (with_in z) (Sets n l) r w) (sym same) h }
  in_from y i r w _ h = absurd h

  range_whole : (e f : QueryTree) → f ≡ e → (r : RangeRead) (w : List Placed) → AsFrom n l (Nothing e) r w → RangeFrom n l (Nothing f) (ARange r) w
  range_whole e f i r w h = record { part = r; is = refl; spells = (as_first n l).map (Nothing e) (Nothing f) (λ z v g. (g.0 ∙ sym i, g.1)) r w h }

  open_from : (F : ℕ → Texts → Lang Placed QueryTree) (m : Inner) (p : ℕ) (r : RangeRead) (w : List Placed) → AsFrom n l (Deeper m (λ L. Ahead (KSign s.Open) (F p L))) r w
      → Led (λ u v f. (kind u ≡ KSign s.Open) × Deeper m (λ L. RangeFrom n l (F p L)) v f) (ARange r) w
  open_from F Nowhere p r w h = absurd (no_as n l r w h)
  open_from F (Level_of L) p r w h = by w (ahead_into (as_first n l) (KSign s.Open) (F p L) r w h)
    where
      by : (w : List Placed) → Ahead (KSign s.Open) (AsFrom n l (F p L)) r w → Led (λ u v f. (kind u ≡ KSign s.Open) × RangeFrom n l (F p L) v f) (ARange r) w
      by [] g = absurd g
      by (u ∷ w) g = (g.0, record { part = r; is = refl; spells = g.1 })

  open_next : (F : ℕ → Texts → Lang Placed QueryTree) (r : RangeRead) (w : List Placed) → AsFrom n l (Deeper l (λ L. Ahead (KSign s.Open) (F t.at L))) r w → Led (λ u. OpenNext n l (F x.at) x (kind u)) (ARange r) w
  open_next F r w h = by w (open_from F l x.at r w (subst (λ (p : ℕ). AsFrom n l (Deeper l (λ L. Ahead (KSign s.Open) (F p L))) r w) (sym at_is) h))
    where
      by : (w : List Placed) → Led (λ u v f. (kind u ≡ KSign s.Open) × Deeper l (λ L. RangeFrom n l (F x.at L)) v f) (ARange r) w → Led (λ u. OpenNext n l (F x.at) x (kind u)) (ARange r) w
      by [] g = absurd g
      by (u ∷ w) g = subst (λ j. OpenNext n l (F x.at) x j (ARange r) w) (sym g.0) g.1

  set_next : (r : RangeRead) (w : List Placed) → Ahead (KSign s.Open) (AsFrom n l (SetIn x.at)) r w → Led (λ u. SetNext n l x (kind u)) (ARange r) w
  set_next r [] g = absurd g
  set_next r (u ∷ w) g = subst (λ j. SetNext n l x j (ARange r) w) (sym g.0) (record { part = r; is = refl; spells = g.1 })

  range_from : (k : Kind) → kind t ≡ k → (r : RangeRead) (w : List Placed) → RangeRest n l k t.at r w → WordNext n l x k (ARange r) w
  range_from (KName y) i r [] (inl h) = absurd h
  range_from (KName y) i r (u ∷ w) (inl h) = inl (in_from y i r w (kind u) h)
  range_from (KName y) i r w (inr h) = inr (range_whole (QName t.at y) (QName x.at y) (ap (λ (p : ℕ). QName p y) at_is) r w h)
  range_from (KWord q.True) i r w h = inr (range_whole (QLiteral t.at (LitBool true)) (QLiteral x.at (LitBool true)) (ap (λ (p : ℕ). QLiteral p (LitBool true)) at_is) r w h)
  range_from (KWord q.False) i r w h = inr (range_whole (QLiteral t.at (LitBool false)) (QLiteral x.at (LitBool false)) (ap (λ (p : ℕ). QLiteral p (LitBool false)) at_is) r w h)
  range_from (KWord q.Set) i r w h = set_next r w (ahead_into (as_first n l) (KSign s.Open) (SetIn x.at) r w (subst (λ (p : ℕ). AsFrom n l (Ahead (KSign s.Open) (SetIn p)) r w) (sym at_is) h))
  range_from (KWord q.Struct) i r w h = open_next StructIn r w h
  range_from (KWord q.Flatten) i r w h = open_next FlattenIn r w h
  range_from (KWord q.Exists) i r w h = open_next SomeIn r w h
  range_from (KWord _) i r w h = absurd (no_as n l r w h)
  range_from k i r w h = absurd (let word = sym (ap is_word_kind i) ∙ named_is_word t.says t.at x named_so in cc)

-- ---- all of it

pub next_to : (n : ℕ) (l : Inner) (c : Next) (w : List Placed) → NextText n l true c w → NextIs n l c w
next_to n l c [] h = absurd h
next_to n l c (t ∷ w) h = by (name_of t) refl h
  where
    by : (o : Option Named) → name_of t ≡ o → NextRest n l o (kind t) t.at c w → NextIs n l c (t ∷ w)
    by (Some x) e g = word_to n l x t e (kind t) refl c w g
    by None e g = subst (λ d. NextIs n l d (t ∷ w)) (sym g.is) (as_range n l (kind t) t.at g.part w g.spells)

plain_range : (n : ℕ) (l : Inner) (t : Placed) (k : Kind) → name_of t ≡ None → kind t ≡ k → (r : RangeRead) (w : List Placed) → RangeRest n l k t.at r w → RangeFrom n l (PrimRest l k t.at) (ARange r) w
plain_range n l t (KName y) e i r w h = absurd (name_some (named y t.at) (name_of t) (name_is t.says t.at y i) e)
plain_range n l t _ e i r w h = record { part = r; is = refl; spells = h }

label_text : (n : ℕ) (l : Inner) (x : Named) (w u v : List Placed) → w ≡ u ++ v → NameText x u → (KSign s.Colon ▸ ends) v → NextText n l true (ALabel x) w
label_text n l x w [] v e h g = absurd h
label_text n l x w (t ∷ a ∷ u) v e h g = absurd h.1
label_text n l x w (t ∷ []) [] e h g = absurd g
label_text n l x w (t ∷ []) (u ∷ v) e h g = subst (NextText n l true (ALabel x)) (sym e) (subst (λ o. NextRest n l o (kind t) t.at (ALabel x) (u ∷ v)) (sym h.0) (label_from n l x t h.0 (kind t) u v g.0 g.1))

pub next_from : (n : ℕ) (l : Inner) (c : Next) (w : List Placed) → NextIs n l c w → NextText n l true c w
next_from n l (ALabel x) w h = label_text n l x w h.front h.back h.split h.first h.second
next_from n l (ARange r) [] h = absurd h
next_from n l (ARange r) (t ∷ w) h = by (name_of t) refl
  where
    by : (o : Option Named) → name_of t ≡ o → NextRest n l o (kind t) t.at (ARange r) w
    by (Some x) e = range_from n l x t e (kind t) refl r w h
    by None e = plain_range n l t (kind t) e refl r w h

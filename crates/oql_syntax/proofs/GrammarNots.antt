-- What the readers read is what the grammar says: not and quantifiers, and the chains of them.
use Rattle.std.proofs.Common.{◌≡◌, inl, inr, ℕ, Bool, true, false, List, [], ◌∷◌, ◌++◌, refl, sym, ap, subst, ◌∙◌}
use Rattle.kola_base.specs.Named.{Named}
use Rattle.kola_base.specs.Placed.{Placed}
use Rattle.kola_base.specs.declared.sign.Sign.TheVariants as s
use Rattle.kola_parse.specs.Texts.{◌·◌, Made, Led}
use Rattle.oql_syntax.specs.Alphabet.{Kind, KSign, KWord, KName, kind}
use Rattle.oql_syntax.specs.Grammar.{Text, ◌▸◌, at, VariableText, NameAtText, Deeper, PrefixedText, NotText, AndText, OrText}
use Rattle.oql_tree.specs.QueryTrees.{QueryTree, QNot, QAnd, QOr, QExists, QForAll}
use Rattle.oql_syntax.specs.QueryReaders.{named, Tailed, with_body, not_tree}
use Rattle.oql_syntax.specs.Tails.{Tail, Plain, Compared, OpenPlain, OpenCompared, Ranged, Labelled, opened}
use Rattle.oql_syntax.specs.declared.word.QueryWord.TheVariants as q
use Rattle.oql_syntax.proofs.QuerySymbols.{Ahead, no_text, VariableRest, Variable}
use Rattle.oql_syntax.proofs.LevelLaws.{Texts, Inner, Nowhere, Level_of, SomeIn, PrimRest, Prim, CmpFrom, Quantified, ExistsRest, ForAll, NotRest, OpenNot, AndLinks, OrLinks, OpenAnd, OpenOrFrom}
use Rattle.oql_syntax.proofs.LinkedTexts.{is_open, Fits, fits, open_linked_to, open_linked_from}
use Rattle.oql_syntax.proofs.FirstParts.{cmp_first, ahead_out, ahead_into}
use Rattle.oql_syntax.proofs.ModeLaws.{and_out, and_into, or_out, or_into}
use Rattle.oql_syntax.proofs.GrammarLaws.{Same, Empty, Agree, cmp_to, cmp_from}

-- ---- names

variable_at : (x : Named) (t : Placed) (w : List Placed) (k : Kind) → kind t ≡ k → VariableRest k t.at x w → NameAtText x.name x.at (t ∷ w)
variable_at x t w (KName y) e h = ((e ∙ ap (λ (z : Named). KName z.name) (sym h.0), ap (λ (z : Named). z.at) (sym h.0)), h.1)
variable_at x t w _ e h = absurd h

pub variable_to : (x : Named) (w : List Placed) → Variable x w → NameAtText x.name x.at w
variable_to x [] h = h
variable_to x (t ∷ w) h = variable_at x t w (kind t) refl h

pub variable_from : (y : List ℕ) (p : ℕ) (w : List Placed) → NameAtText y p w → Variable (named y p) w
variable_from y p [] h = h
variable_from y p (t ∷ w) h = subst (λ k. VariableRest k t.at (named y p) w) (sym h.0.0) (ap (named y) (sym h.0.1), h.1)

unplaced : (y : List ℕ) (p : ℕ) (w : List Placed) → NameAtText y p w → VariableText y w
unplaced y p [] h = h
unplaced y p (t ∷ w) h = (h.0.0, h.1)

somewhere : (y : List ℕ) (w : List Placed) → VariableText y w → (p : ℕ) × NameAtText y p w
somewhere y [] h = absurd h
somewhere y (t ∷ w) h = (t.at, ((h.0, refl), h.1))

-- ---- quantifiers

opened_is_open : (x : Tail) → is_open (opened x) ≡ true
opened_is_open Plain = refl
opened_is_open Compared = refl
opened_is_open OpenPlain = refl
opened_is_open OpenCompared = refl
opened_is_open (Ranged b) = refl
opened_is_open (Labelled y p) = refl

-- behind the variable
abbrev pub QuantifiedText : Deeper → QueryTree → QueryTree → Text
QuantifiedText B r e = KWord q.In ▸ (B.sets r · KSign s.Colon ▸ B.full e)

record QuantifiedAs (B : Deeper) (k : QueryTree → QueryTree → QueryTree) (e : QueryTree) (x : Tail) (w : List Placed) : Type 0 where
  range : QueryTree
  body : QueryTree
  is : e ≡ k range body
  open_tail : is_open x ≡ true
  spells : QuantifiedText B range body w

quantified_to : (B : Deeper) (L : Texts) → Same L B → (k : QueryTree → QueryTree → QueryTree) (e : QueryTree) (x : Tail) (w : List Placed) → Quantified false k L (e, x) w → QuantifiedAs B k e x w
quantified_to B L same k e x [] h = absurd h
quantified_to B L same k e x (t ∷ w) h = by h.1.back h.1.split h.1.second
  where
    by : (v : List Placed) → w ≡ h.1.front ++ v → Ahead (KSign s.Colon) (Made (with_body k h.1.mid) (L.full false)) (e, x) v → QuantifiedAs B k e x (t ∷ w)
    by [] i g = absurd g
    by (u ∷ v) i g =
        let m = g.1 in
        record {
          range = h.1.mid;
          body = m.part.0;
          is = ap (λ (z : Tailed). z.0) m.is;
          open_tail = ap (λ (z : Tailed). is_open z.1) m.is ∙ opened_is_open m.part.1;
          spells = (h.0, record { front = h.1.front; back = u ∷ v; split = i; first = same.sets_to h.1.mid h.1.front h.1.first; second = (g.0, same.full_to m.part.0 m.part.1 v m.spells) });
        }

quantified_from : (B : Deeper) (L : Texts) → Same L B → (k : QueryTree → QueryTree → QueryTree) (r e : QueryTree) (w : List Placed) → QuantifiedText B r e w → (x : Tail) × Quantified false k L (k r e, x) w
quantified_from B L same k r e [] h = absurd h
quantified_from B L same k r e (t ∷ w) h = by h.1.back h.1.split h.1.second
  where
    by : (v : List Placed) → w ≡ h.1.front ++ v → (KSign s.Colon ▸ B.full e) v → (x : Tail) × Quantified false k L (k r e, x) (t ∷ w)
    by [] i g = absurd g
    by (u ∷ v) i g =
        let f = same.full_from e v g.1 in
        (opened f.0, (h.0, record { mid = r; front = h.1.front; back = u ∷ v; split = i; first = same.sets_from r h.1.front h.1.first; second = (g.0, record { part = (e, f.0); is = refl; spells = f.1 }) }))

no_quantified : (B : Deeper) → Empty B → (r e : QueryTree) (w : List Placed) → QuantifiedText B r e w → ⊥
no_quantified B n r e [] h = h
no_quantified B n r e (t ∷ w) h = n.sets r h.1.front h.1.first

-- ---- not

-- an open tail may stand only where it is said
open_fits : (b : Bool) (x : Tail) → Fits b x → is_open x ≡ true → b ≡ true
open_fits true x f e = refl
open_fits false x f e = absurd (let g = sym f ∙ e in cc)

-- a text that begins with a first operand, behind its first token
cmp_out : (n : ℕ) (l : Inner) (t : Placed) (k : Kind) (v : Tailed) (w : List Placed) → kind t ≡ k → CmpFrom n l (PrimRest l k t.at) v w → CmpFrom n l (Prim l) v (t ∷ w)
cmp_out n l t k v w e h = (cmp_first n l).out (λ t. PrimRest l (kind t) t.at) t v w (subst (λ j. CmpFrom n l (PrimRest l j t.at) v w) (sym e) h)

exists_to : (n : ℕ) (l : Inner) (B : Deeper) (L : Texts) → l ≡ Level_of L → Agree l B → Same L B → (b : Bool) (t : Placed) (e : QueryTree) (x : Tail) (u : Placed) (w : List Placed) (k : Kind) → kind t ≡ KWord q.Exists → kind u ≡ k → Fits b x
    → ExistsRest n false l L t.at k (e, x) w → NotText n B b e (t ∷ u ∷ w)
exists_to n l B L il agree same b t e x u w (KName y) i j f h =
    let g = quantified_to B L same (QExists t.at y) e x w h in
    inr (subst (λ c. PrefixedText B c e (t ∷ u ∷ w)) (sym (open_fits b x f g.open_tail)) (subst (λ z. PrefixedText B true z (t ∷ u ∷ w)) (sym g.is) ((i, refl), record { front = u ∷ []; back = w; split = refl; first = (j, tt); second = g.spells })))
exists_to n l B L il agree same b t e x u w (KSign s.Open) i j f h =
    let one : CmpFrom n l (PrimRest (Level_of L) (KWord q.Exists) t.at) (e, x) (u ∷ w) = ahead_out (cmp_first n l) (KSign s.Open) (SomeIn t.at L) u (e, x) w j h in
    inl (cmp_to n l B agree e x (t ∷ u ∷ w) (cmp_out n l t (KWord q.Exists) (e, x) (u ∷ w) i (subst (λ m. CmpFrom n l (PrimRest m (KWord q.Exists) t.at) (e, x) (u ∷ w)) (sym il) one)))
exists_to n l B L il agree same b t e x u w _ i j f h = absurd h

for_all_to : (n : ℕ) (B : Deeper) (L : Texts) → Same L B → (b : Bool) (t : Placed) (e : QueryTree) (x : Tail) (w : List Placed) → kind t ≡ KWord q.For → Fits b x → ForAll false t.at L (e, x) w → NotText n B b e (t ∷ w)
for_all_to n B L same b t e x [] i f h = absurd h
for_all_to n B L same b t e x (u ∷ w) i f h =
    let c = h.1 in
    let g = quantified_to B L same (QForAll t.at c.mid.name) e x c.back c.second in
    let name = unplaced c.mid.name c.mid.at c.front (variable_to c.mid c.front c.first) in
    inr (
    subst (λ d. PrefixedText B d e (t ∷ u ∷ w)) (sym (open_fits b x f g.open_tail))
    (subst (λ z. PrefixedText B true z (t ∷ u ∷ w)) (sym g.is) ((i, refl), (h.0, record { front = c.front; back = c.back; split = c.split; first = name; second = g.spells })))
    )

not_rest_to : (n : ℕ) (l : Inner) (B : Deeper) → Agree l B → (b : Bool) (k : Kind) (t : Placed) (e : QueryTree) (x : Tail) (w : List Placed) → kind t ≡ k → Fits b x → NotRest n false l k t.at (e, x) w → NotText n B b e (t ∷ w)
not_rest_to n Nowhere B agree b (KWord q.Not) t e x w i f h = absurd h
not_rest_to n (Level_of L) B same b (KWord q.Not) t e x w i f h =
    let v = h.part in
    inr (subst (λ z. PrefixedText B b z (t ∷ w)) (sym (ap (λ (z : Tailed). z.0) h.is)) ((i, refl), same.not_to b v.0 v.1 w (subst (Fits b) (ap (λ (z : Tailed). z.1) h.is) f) h.spells))
not_rest_to n Nowhere B agree b (KWord q.Exists) t e x w i f h = absurd h
not_rest_to n (Level_of L) B same b (KWord q.Exists) t e x [] i f h = absurd h
not_rest_to n (Level_of L) B same b (KWord q.Exists) t e x (u ∷ w) i f h = exists_to n (Level_of L) B L refl same same b t e x u w (kind u) i refl f h
not_rest_to n Nowhere B agree b (KWord q.For) t e x w i f h = absurd h
not_rest_to n (Level_of L) B same b (KWord q.For) t e x w i f h = for_all_to n B L same b t e x w i f h
not_rest_to n l B agree b k t e x w i f h = inl (cmp_to n l B agree e x (t ∷ w) (cmp_out n l t k (e, x) w i h))

pub not_to : (n : ℕ) (l : Inner) (B : Deeper) → Agree l B → (b : Bool) (e : QueryTree) (x : Tail) (w : List Placed) → Fits b x → OpenNot n false l (e, x) w → NotText n B b e w
not_to n l B agree b e x [] f h = absurd h
not_to n l B agree b e x (t ∷ w) f h = not_rest_to n l B agree b (kind t) t e x w refl f h

-- ---- and from the grammar

no_cmp : (n : ℕ) (l : Inner) (v : Tailed) (w : List Placed) → CmpFrom n l no_text v w → ⊥
no_cmp n l v w h = ((cmp_first n l).part no_text v w h).2

cmp_exists : (n : ℕ) (l : Inner) (p : ℕ) (v : Tailed) (w : List Placed) → CmpFrom n l (PrimRest l (KWord q.Exists) p) v w → NotRest n false l (KWord q.Exists) p v w
cmp_exists n Nowhere p v w h = absurd (no_cmp n Nowhere v w h)
cmp_exists n (Level_of L) p v w h = by w (ahead_into (cmp_first n (Level_of L)) (KSign s.Open) (SomeIn p L) v w h)
  where
    by : (w : List Placed) → Ahead (KSign s.Open) (CmpFrom n (Level_of L) (SomeIn p L)) v w → Led (λ u. ExistsRest n false (Level_of L) L p (kind u)) v w
    by [] g = absurd g
    by (u ∷ w) g = subst (λ j. ExistsRest n false (Level_of L) L p j v w) (sym g.0) g.1

pub cmp_not : (n : ℕ) (l : Inner) (k : Kind) (p : ℕ) (v : Tailed) (w : List Placed) → CmpFrom n l (PrimRest l k p) v w → NotRest n false l k p v w
cmp_not n l (KWord q.Not) p v w h = absurd (no_cmp n l v w h)
cmp_not n l (KWord q.For) p v w h = absurd (no_cmp n l v w h)
cmp_not n l (KWord q.Exists) p v w h = cmp_exists n l p v w h
cmp_not n l k p v w h = h

cmp_opennot : (n : ℕ) (l : Inner) (v : Tailed) (w : List Placed) → CmpFrom n l (Prim l) v w → OpenNot n false l v w
cmp_opennot n l v w h = by w ((cmp_first n l).into (λ t. PrimRest l (kind t) t.at) v w h)
  where
    by : (w : List Placed) → Led (λ t. CmpFrom n l (PrimRest l (kind t) t.at)) v w → OpenNot n false l v w
    by [] g = absurd g
    by (t ∷ w) g = cmp_not n l (kind t) t.at v w g

abbrev Spelled : ℕ → Inner → Bool → QueryTree → List Placed → Type 0
Spelled n l b e w = (x : Tail) × Fits b x × OpenNot n false l (e, x) w

led_not : (n : ℕ) (l : Inner) (t : Placed) (k : Kind) (v : Tailed) (w : List Placed) → kind t ≡ k → NotRest n false l k t.at v w → OpenNot n false l v (t ∷ w)
led_not n l t k v w e h = subst (λ j. NotRest n false l j t.at v w) (sym e) h

negated_from : (n : ℕ) (l : Inner) (B : Deeper) → Agree l B → (b : Bool) (p : ℕ) (e : QueryTree) (w : List Placed) → at q.Not p (B.negation b e) w → Spelled n l b (QNot p e) w
negated_from n l B agree b p e [] h = absurd h
negated_from n Nowhere B agree b p e (t ∷ w) h = absurd (agree.negation b e w h.1)
negated_from n (Level_of L) B same b p e (t ∷ w) h =
    let g = same.not_from b e w h.1 in
    (g.0, g.1, led_not n (Level_of L) t (KWord q.Not) (QNot p e, g.0) w h.0.0 (record { part = (e, g.0); is = ap (λ (p : ℕ). not_tree p (e, g.0)) (sym h.0.1); spells = g.2 }))

exists_from : (n : ℕ) (l : Inner) (B : Deeper) → Agree l B → (p : ℕ) (y : List ℕ) (r e : QueryTree) (t : Placed) (w u v : List Placed) → (kind t ≡ KWord q.Exists) × (t.at ≡ p) → w ≡ u ++ v → VariableText y u → QuantifiedText B r e v → Spelled n l true (QExists p y r e) (t ∷ w)
exists_from n Nowhere B agree p y r e t w u v i j f h = absurd (no_quantified B agree r e v h)
exists_from n (Level_of L) B same p y r e t w [] v i j f h = absurd f
exists_from n (Level_of L) B same p y r e t w (a ∷ c ∷ u) v i j f h = absurd f.1
exists_from n (Level_of L) B same p y r e t w (a ∷ []) v i j f h =
    let g = quantified_from B L same (QExists t.at y) r e v h in (
      g.0,
      tt,
      subst (λ (p : ℕ). OpenNot n false (Level_of L) (QExists p y r e, g.0) (t ∷ w)) i.1
          (subst (λ (z : List Placed). OpenNot n false (Level_of L) (QExists t.at y r e, g.0) (t ∷ z)) (sym j)
          (led_not n (Level_of L) t (KWord q.Exists) (QExists t.at y r e, g.0) (a ∷ v) i.0 (subst (λ k. ExistsRest n false (Level_of L) L t.at k (QExists t.at y r e, g.0) v) (sym f.0) g.1))),
    )

for_from : (n : ℕ) (l : Inner) (B : Deeper) → Agree l B → (p : ℕ) (y : List ℕ) (r e : QueryTree) (t : Placed) (w : List Placed) → (kind t ≡ KWord q.For) × (t.at ≡ p) → (KWord q.All ▸ (VariableText y · QuantifiedText B r e)) w → Spelled n l true (QForAll p y r e) (t ∷ w)
for_from n l B agree p y r e t [] i h = absurd h
for_from n Nowhere B agree p y r e t (u ∷ w) i h = absurd (no_quantified B agree r e h.1.back h.1.second)
for_from n (Level_of L) B same p y r e t (u ∷ w) i h =
    let c = h.1 in
    let g = quantified_from B L same (QForAll t.at y) r e c.back c.second in
    let name = somewhere y c.front c.first in (
      g.0,
      tt,
      subst (λ (p : ℕ). OpenNot n false (Level_of L) (QForAll p y r e, g.0) (t ∷ u ∷ w)) i.1
          (led_not n (Level_of L) t (KWord q.For) (QForAll t.at y r e, g.0) (u ∷ w) i.0 (h.0, record { mid = named y name.0; front = c.front; back = c.back; split = c.split; first = variable_from y name.0 c.front name.1; second = g.1 })),
    )

prefixed_from : (n : ℕ) (l : Inner) (B : Deeper) → Agree l B → (b : Bool) (e : QueryTree) (w : List Placed) → PrefixedText B b e w → Spelled n l b e w
prefixed_from n l B agree true (QNot p e) w h = negated_from n l B agree true p e w h
prefixed_from n l B agree false (QNot p e) w h = negated_from n l B agree false p e w h
prefixed_from n l B agree true (QExists p y r e) [] h = absurd h
prefixed_from n l B agree true (QExists p y r e) (t ∷ w) h = exists_from n l B agree p y r e t w h.1.front h.1.back h.0 h.1.split h.1.first h.1.second
prefixed_from n l B agree true (QForAll p y r e) [] h = absurd h
prefixed_from n l B agree true (QForAll p y r e) (t ∷ w) h = for_from n l B agree p y r e t w h.0 h.1
prefixed_from n l B agree true _ w h = absurd h
prefixed_from n l B agree false _ w h = absurd h

pub not_from : (n : ℕ) (l : Inner) (B : Deeper) → Agree l B → (b : Bool) (e : QueryTree) (w : List Placed) → NotText n B b e w → Spelled n l b e w
not_from n l B agree b e w (inl h) = let g = cmp_from n l B agree e w h in (g.0, fits b g.0 g.1, cmp_opennot n l (e, g.0) w g.2)
not_from n l B agree b e w (inr h) = prefixed_from n l B agree b e w h

-- ---- chains

pub and_to : (n : ℕ) (l : Inner) (B : Deeper) → Agree l B → (b : Bool) (e : QueryTree) (x : Tail) (w : List Placed) → Fits b x → OpenAnd n false l (e, x) w → AndText n B b e w
and_to n l B agree b e x w f h =
    open_linked_to q.And (OpenNot n false l) (NotText n B) (AndLinks (OpenNot n false l)) (and_out (OpenNot n false l)) (not_to n l B agree) QAnd n b e x w f h

pub and_from : (n : ℕ) (l : Inner) (B : Deeper) → Agree l B → (b : Bool) (e : QueryTree) (w : List Placed) → AndText n B b e w → (x : Tail) × Fits b x × OpenAnd n false l (e, x) w
and_from n l B agree b e w h =
    open_linked_from q.And (OpenNot n false l) (NotText n B) (AndLinks (OpenNot n false l)) (and_into (OpenNot n false l)) (not_from n l B agree) QAnd n b e w h

pub or_to : (n : ℕ) (l : Inner) (B : Deeper) → Agree l B → (b : Bool) (e : QueryTree) (x : Tail) (w : List Placed) → Fits b x → OpenOrFrom n false l (OpenNot n false l) (e, x) w → OrText n B b e w
or_to n l B agree b e x w f h =
    open_linked_to q.Or (OpenAnd n false l) (AndText n B) (OrLinks (OpenAnd n false l)) (or_out (OpenAnd n false l)) (and_to n l B agree) QOr n b e x w f h

pub or_from : (n : ℕ) (l : Inner) (B : Deeper) → Agree l B → (b : Bool) (e : QueryTree) (w : List Placed) → OrText n B b e w → (x : Tail) × Fits b x × OpenOrFrom n false l (OpenNot n false l) (e, x) w
or_from n l B agree b e w h =
    open_linked_from q.Or (OpenAnd n false l) (AndText n B) (OrLinks (OpenAnd n false l)) (or_into (OpenAnd n false l)) (and_from n l B agree) QOr n b e w h

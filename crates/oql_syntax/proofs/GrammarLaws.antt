-- What the readers read is what the grammar says: first operands, sets, and comparisons.
use Rattle.std.proofs.Common.{◌≡◌, ◌⊎◌, inl, inr, ℕ, suc, Bool, true, false, List, [], ◌∷◌, ◌++◌, Option, Some, None, refl, sym, ap, subst, ◌∙◌}
use Rattle.std.proofs.lemmas.List.{append-nil}
use Rattle.kola_base.specs.Named.{Named, NameText}
use Rattle.kola_base.specs.Placed.{Placed}
use Rattle.kola_base.specs.declared.sign.Sign.TheVariants as s
use Rattle.kola_parse.specs.Kinds.{Lang, leads}
use Rattle.kola_parse.specs.Listed.{Listed}
use Rattle.kola_parse.specs.Texts.{◌·◌, ends, Nothing, Made}
use Rattle.kola_parse.proofs.ReaderLaws.{nil_of}
use Rattle.oql_syntax.specs.Alphabet.{Kind, KSign, KWord, KName, KNumber, KString, kind}
use Rattle.oql_syntax.specs.Grammar.{Text, ◌▸◌, at, LabelText, LiteralText, ComparisonAt, PartedByCommas, Deeper, FieldText, ItselfText, PrimText, PathText, MeetText, union_word, SetsText, ComparedText, CmpText, RangeText}
use Rattle.oql_tree.specs.QueryTrees.{LitTree, LitInt, LitStr, LitBool, QueryTree, QName, QLiteral, QSetOf, QStruct, QFlatten, QSomeMember, QCompare, QueryFields, NoFields, QField, QueryRanges, NoRanges, QRange, fields, of_fields, ranges, of_ranges}
use Rattle.oql_syntax.specs.QueryReaders.{named, literal_of, Tailed, RangeParts, FieldParts, path_of, intersect_of, union_of, set_operand, compared}
use Rattle.oql_syntax.specs.Tails.{Tail, Plain, Compared}
use Rattle.oql_syntax.specs.declared.word.QueryWord.TheVariants as q
use Rattle.oql_syntax.proofs.QuerySymbols.{Ahead, LiteralRest, Literal}
use Rattle.oql_syntax.proofs.LevelLaws.{Texts, Inner, Nowhere, Level_of, Closed, CommaLiteral, CloseText, Literals, StructIn, FlattenIn, SomeIn, SetIn, PathLinks, PathBy, MeetLinks, MeetFrom, UnionLinks, PrimRest, Prim, SetsFrom, Sets, CmpFrom}
use Rattle.oql_syntax.proofs.LevelLaws as levels
use Rattle.oql_syntax.proofs.LinkedTexts.{linked_to, linked_from, is_open, Fits}
use Rattle.oql_syntax.proofs.ModeLaws.{Comparing, CmpChain, cmp_cases, cmp_link, IsRanged}

-- ---- lists

pub fields_of : (fs : List FieldParts) → fields (of_fields fs) ≡ fs
fields_of [] = refl
fields_of (f ∷ fs) = ap (λ (z : List FieldParts). f ∷ z) (fields_of fs)

pub of_fields_of : (fs : QueryFields) → of_fields (fields fs) ≡ fs
of_fields_of NoFields = refl
of_fields_of (QField l p e fs) = ap (QField l p e) (of_fields_of fs)

pub ranges_of : (rs : List RangeParts) → ranges (of_ranges rs) ≡ rs
ranges_of [] = refl
ranges_of (r ∷ rs) = ap (λ (z : List RangeParts). r ∷ z) (ranges_of rs)

pub of_ranges_of : (rs : QueryRanges) → of_ranges (ranges rs) ≡ rs
of_ranges_of NoRanges = refl
of_ranges_of (QRange x p e rs) = ap (QRange x p e) (of_ranges_of rs)

pub listed_map : {A : Type 0} (I J : A → Text) (K L : Text) → ((v : A) (w : List Placed) → I v w → J v w) → ((w : List Placed) → K w → L w) → (vs : List A) (w : List Placed) → Listed I K vs w → Listed J L vs w
listed_map I J K L item last [] w h = last w h
listed_map I J K L item last (v ∷ vs) w h = record { front = h.front; back = h.back; split = h.split; first = item v h.front h.first; second = listed_map I J K L item last vs h.back h.second }

-- ---- what the languages of a level are in the grammar

pub record Same (L : Texts) (B : Deeper) : Type 0 where
  pub sets_to : (e : QueryTree) (w : List Placed) → L.sets e w → B.sets e w
  pub sets_from : (e : QueryTree) (w : List Placed) → B.sets e w → L.sets e w
  pub not_to : (b : Bool) (e : QueryTree) (x : Tail) (w : List Placed) → Fits b x → L.opennot false (e, x) w → B.negation b e w
  pub not_from : (b : Bool) (e : QueryTree) (w : List Placed) → B.negation b e w → (x : Tail) × Fits b x × L.opennot false (e, x) w
  pub full_to : (e : QueryTree) (x : Tail) (w : List Placed) → L.full false (e, x) w → B.full e w
  pub full_from : (e : QueryTree) (w : List Placed) → B.full e w → (x : Tail) × L.full false (e, x) w
  pub ranges_to : (rs : List RangeParts) (x : Tail) (w : List Placed) → L.ranges false (rs, x) w → IsRanged x × PartedByCommas (RangeText B) ends rs w
  pub ranges_from : (rs : List RangeParts) (w : List Placed) → PartedByCommas (RangeText B) ends rs w → (x : Tail) × IsRanged x × L.ranges false (rs, x) w
  pub fields_to : (fs : List FieldParts) (w : List Placed) → L.fields fs w → PartedByCommas (FieldText B) (KSign s.Close ▸ ends) fs w
  pub fields_from : (fs : List FieldParts) (w : List Placed) → PartedByCommas (FieldText B) (KSign s.Close ▸ ends) fs w → L.fields fs w

-- nothing stands deeper
pub record Empty (B : Deeper) : Type 0 where
  pub sets : (e : QueryTree) (w : List Placed) → B.sets e w → ⊥
  pub negation : (b : Bool) (e : QueryTree) (w : List Placed) → B.negation b e w → ⊥
  pub full : (e : QueryTree) (w : List Placed) → B.full e w → ⊥

abbrev pub Agree : Inner → Deeper → Type 0
Agree Nowhere B = Empty B
Agree (Level_of L) B = Same L B

pub deeper_to : {A : Type 0} (l : Inner) (B : Deeper) → Agree l B → (F : Texts → Lang Placed A) (y : A) (w : List Placed) (G : Type 0) → ((L : Texts) → Same L B → F L y w → G) → levels.Deeper l F y w → G
deeper_to Nowhere B a F y w G go h = absurd h
deeper_to (Level_of L) B a F y w G go h = go L a h

pub deeper_from : {A : Type 0} (l : Inner) (B : Deeper) → Agree l B → (F : Texts → Lang Placed A) (y : A) (w : List Placed) → (Empty B → ⊥) → ((L : Texts) → Same L B → F L y w) → levels.Deeper l F y w
deeper_from Nowhere B a F y w full go = absurd (full a)
deeper_from (Level_of L) B a F y w full go = go L a

-- ---- parentheses

closed_at : (B : Deeper) (L : Texts) → Same L B → (e : QueryTree) (v : Tailed) (w u z : List Placed) → w ≡ u ++ z → L.full false v u → Ahead (KSign s.Close) (Nothing v.0) e z → (B.full e · KSign s.Close ▸ ends) w
closed_at B L same e v w u [] i f c = absurd c
closed_at B L same e v w u (t ∷ z) i f c = record { front = u; back = t ∷ z; split = i; first = subst (λ y. B.full y u) (sym c.1.0) (same.full_to v.0 v.1 u f); second = (c.0, c.1.1) }

pub closed_to : (B : Deeper) (L : Texts) → Same L B → (e : QueryTree) (w : List Placed) → Closed (L.full false) e w → (B.full e · KSign s.Close ▸ ends) w
closed_to B L same e w c = closed_at B L same e c.mid w c.front c.back c.split c.first c.second

closing : (e : QueryTree) (w : List Placed) → (KSign s.Close ▸ ends) w → Ahead (KSign s.Close) (Nothing e) e w
closing e [] h = h
closing e (t ∷ w) h = (h.0, (refl, h.1))

pub closed_from : (B : Deeper) (L : Texts) → Same L B → (e : QueryTree) (w : List Placed) → (B.full e · KSign s.Close ▸ ends) w → Closed (L.full false) e w
closed_from B L same e w h = let f = same.full_from e h.front h.first in record { mid = (e, f.0); front = h.front; back = h.back; split = h.split; first = f.1; second = closing e h.back h.second }

pub no_closed : (B : Deeper) (e : QueryTree) (w : List Placed) → (B.full e · KSign s.Close ▸ ends) w → Empty B → ⊥
no_closed B e w h n = n.full e h.front h.first

-- ---- literals

literal_at : (v : LitTree × ℕ) (t : Placed) (w : List Placed) (o : Option LitTree) → literal_of (kind t) ≡ o → LiteralRest o t.at v w → LiteralText v (t ∷ w)
literal_at v t w (Some z) e h = ((e ∙ ap (λ (y : LitTree × ℕ). Some y.0) (sym h.0), ap (λ (y : LitTree × ℕ). y.1) (sym h.0)), h.1)
literal_at v t w None e h = absurd h

literal_to : (v : LitTree × ℕ) (w : List Placed) → Literal v w → LiteralText v w
literal_to v [] h = h
literal_to v (t ∷ w) h = literal_at v t w (literal_of (kind t)) refl h

literal_from : (v : LitTree × ℕ) (w : List Placed) → LiteralText v w → Literal v w
literal_from v [] h = h
literal_from v (t ∷ w) h = subst (λ o. LiteralRest o t.at v w) (sym h.0.0) (ap (λ (p : ℕ). (v.0, p)) (sym h.0.1), h.1)

comma_to : (v : LitTree × ℕ) (w : List Placed) → CommaLiteral v w → (KSign s.Comma ▸ LiteralText v) w
comma_to v [] h = h
comma_to v (t ∷ w) h = (h.0, literal_to v w h.1)

comma_from : (v : LitTree × ℕ) (w : List Placed) → (KSign s.Comma ▸ LiteralText v) w → CommaLiteral v w
comma_from v [] h = h
comma_from v (t ∷ w) h = (h.0, literal_from v w h.1)

literals_to : (vs : List (LitTree × ℕ)) (w : List Placed) → Literals vs w → PartedByCommas LiteralText (KSign s.Close ▸ ends) vs w
literals_to vs w h =
    let c = h.spells in
    subst (λ z. PartedByCommas LiteralText (KSign s.Close ▸ ends) z w) (sym h.is)
    (record { front = c.front; back = c.back; split = c.split; first = literal_to h.part.0 c.front c.first; second = listed_map CommaLiteral (λ v. KSign s.Comma ▸ LiteralText v) CloseText (KSign s.Close ▸ ends) comma_to (λ w k. k) h.part.1 c.back c.second })

literals_from : (vs : List (LitTree × ℕ)) (w : List Placed) → PartedByCommas LiteralText (KSign s.Close ▸ ends) vs w → Literals vs w
literals_from [] w h = absurd h
literals_from (v ∷ vs) w h =
    record { part = (v, vs); is = refl; spells = record { front = h.front; back = h.back; split = h.split; first = literal_from v h.front h.first; second = listed_map (λ v. KSign s.Comma ▸ LiteralText v) CommaLiteral (KSign s.Close ▸ ends) CloseText comma_from (λ w k. k) vs h.back h.second } }

-- ---- first operands

module _ (l : Inner) (B : Deeper) (agree : Agree l B) where
  prim_rest_to : (k : Kind) (t : Placed) (e : QueryTree) (w : List Placed) → kind t ≡ k → PrimRest l k t.at e w → PrimText B e (t ∷ w)
  prim_rest_to (KName x) t e w i h = subst (λ y. PrimText B y (t ∷ w)) (sym h.0) (inl ((i, refl), h.1))
  prim_rest_to (KNumber z) t e w i h = subst (λ y. PrimText B y (t ∷ w)) (sym h.0) (inl ((ap literal_of i, refl), h.1))
  prim_rest_to (KString b) t e w i h = subst (λ y. PrimText B y (t ∷ w)) (sym h.0) (inl ((ap literal_of i, refl), h.1))
  prim_rest_to (KWord q.True) t e w i h = subst (λ y. PrimText B y (t ∷ w)) (sym h.0) (inl ((ap literal_of i, refl), h.1))
  prim_rest_to (KWord q.False) t e w i h = subst (λ y. PrimText B y (t ∷ w)) (sym h.0) (inl ((ap literal_of i, refl), h.1))
  prim_rest_to (KWord q.Set) t e [] i h = absurd h
  prim_rest_to (KWord q.Set) t e (u ∷ w) i h = subst (λ y. PrimText B y (t ∷ u ∷ w)) (sym h.1.is) (inl ((i, refl), (h.0, literals_to h.1.part w h.1.spells)))
  prim_rest_to (KWord q.Struct) t e w i h = deeper_to l B agree (λ L. Ahead (KSign s.Open) (StructIn t.at L)) e w (PrimText B e (t ∷ w)) (λ L same g. by L same w g) h
    where
      by : (L : Texts) → Same L B → (w : List Placed) → Ahead (KSign s.Open) (StructIn t.at L) e w → PrimText B e (t ∷ w)
      by L same [] g = absurd g
      by L same (u ∷ w) g = subst (λ y. PrimText B y (t ∷ u ∷ w)) (sym g.1.is) (inl ((i, refl), (g.0, subst (λ z. PartedByCommas (FieldText B) (KSign s.Close ▸ ends) z w) (sym (fields_of g.1.part)) (same.fields_to g.1.part w g.1.spells))))
  prim_rest_to (KWord q.Flatten) t e w i h = deeper_to l B agree (λ L. Ahead (KSign s.Open) (FlattenIn t.at L)) e w (PrimText B e (t ∷ w)) (λ L same g. by L same w g) h
    where
      by : (L : Texts) → Same L B → (w : List Placed) → Ahead (KSign s.Open) (FlattenIn t.at L) e w → PrimText B e (t ∷ w)
      by L same [] g = absurd g
      by L same (u ∷ w) g = subst (λ y. PrimText B y (t ∷ u ∷ w)) (sym g.1.is) (inl ((i, refl), (g.0, closed_to B L same g.1.part w g.1.spells)))
  prim_rest_to (KWord q.Exists) t e w i h = deeper_to l B agree (λ L. Ahead (KSign s.Open) (SomeIn t.at L)) e w (PrimText B e (t ∷ w)) (λ L same g. by L same w g) h
    where
      by : (L : Texts) → Same L B → (w : List Placed) → Ahead (KSign s.Open) (SomeIn t.at L) e w → PrimText B e (t ∷ w)
      by L same [] g = absurd g
      by L same (u ∷ w) g = subst (λ y. PrimText B y (t ∷ u ∷ w)) (sym g.1.is) (inl ((i, refl), (g.0, closed_to B L same g.1.part w g.1.spells)))
  prim_rest_to (KSign s.Open) t e w i h = deeper_to l B agree (λ L. Closed (L.full false)) e w (PrimText B e (t ∷ w)) (λ L same g. inr (i, closed_to B L same e w g)) h
  prim_rest_to _ t e w i h = absurd h

  pub prim_to : (e : QueryTree) (w : List Placed) → Prim l e w → PrimText B e w
  prim_to e [] h = absurd h
  prim_to e (t ∷ w) h = prim_rest_to (kind t) t e w refl h

  literal_rest : (k : Kind) (v : LitTree) (p : ℕ) (w : List Placed) → literal_of k ≡ Some v → ends w → PrimRest l k p (QLiteral p v) w
  literal_rest (KNumber z) v p w e h = let i : v ≡ LitInt z = cc in (ap (QLiteral p) i, h)
  literal_rest (KString b) v p w e h = let i : v ≡ LitStr b = cc in (ap (QLiteral p) i, h)
  literal_rest (KWord q.True) v p w e h = let i : v ≡ LitBool true = cc in (ap (QLiteral p) i, h)
  literal_rest (KWord q.False) v p w e h = let i : v ≡ LitBool false = cc in (ap (QLiteral p) i, h)
  literal_rest _ v p w e h = absurd cc

  behind_open : (P : Lang Placed QueryTree) (A : Text) (e : QueryTree) (w : List Placed) → (KSign s.Open ▸ A) w → ((v : List Placed) → A v → P e v) → Ahead (KSign s.Open) P e w
  behind_open P A e [] h go = absurd h
  behind_open P A e (u ∷ w) h go = (h.0, go w h.1)

  opened : (A : Text) (w : List Placed) → (KSign s.Open ▸ A) w → (Empty B → (v : List Placed) → A v → ⊥) → Empty B → ⊥
  opened A [] h go n = h
  opened A (u ∷ w) h go n = go n w h.1

  fields_empty : Empty B → (fs : List FieldParts) (v : List Placed) → PartedByCommas (FieldText B) (KSign s.Close ▸ ends) fs v → ⊥
  fields_empty n [] v h = h
  fields_empty n (f ∷ fs) v h = by h.first.back h.first.second
    where
      by : (z : List Placed) → (KSign s.Colon ▸ B.full f.2) z → ⊥
      by [] g = g
      by (t ∷ z) g = n.full f.2 z g.1

  itself_from : (e : QueryTree) (t : Placed) (w : List Placed) → ItselfText B e (t ∷ w) → PrimRest l (kind t) t.at e w
  itself_from (QName p x) t w h = subst (λ k. PrimRest l k t.at (QName p x) w) (sym h.0.0) (ap (λ (p : ℕ). QName p x) (sym h.0.1), h.1)
  itself_from (QLiteral p v) t w h = subst (λ (p : ℕ). PrimRest l (kind t) t.at (QLiteral p v) w) h.0.1 (literal_rest (kind t) v t.at w h.0.0 h.1)
  itself_from (QSetOf p vs) t w h =
      subst (λ k. PrimRest l k t.at (QSetOf p vs) w) (sym h.0.0)
      (subst (λ (p : ℕ). Ahead (KSign s.Open) (SetIn t.at) (QSetOf p vs) w) h.0.1 (behind_open (SetIn t.at) (PartedByCommas LiteralText (KSign s.Close ▸ ends) vs) (QSetOf t.at vs) w h.1 (λ v g. record { part = vs; is = refl; spells = literals_from vs v g })))
  itself_from (QStruct p fs) t w h =
      subst (λ k. PrimRest l k t.at (QStruct p fs) w) (sym h.0.0)
      (deeper_from l B agree (λ L. Ahead (KSign s.Open) (StructIn t.at L)) (QStruct p fs) w (opened _ w h.1 (λ n v g. fields_empty n (fields fs) v g))
      (λ L same. behind_open (StructIn t.at L) _ (QStruct p fs) w h.1 (λ v g. record { part = fields fs; is = ap (λ (p : ℕ). QStruct p fs) (sym h.0.1) ∙ ap (QStruct t.at) (sym (of_fields_of fs)); spells = same.fields_from (fields fs) v g })))
  itself_from (QFlatten p e) t w h =
      subst (λ k. PrimRest l k t.at (QFlatten p e) w) (sym h.0.0)
      (deeper_from l B agree (λ L. Ahead (KSign s.Open) (FlattenIn t.at L)) (QFlatten p e) w (opened _ w h.1 (λ n v g. no_closed B e v g n))
      (λ L same. behind_open (FlattenIn t.at L) _ (QFlatten p e) w h.1 (λ v g. record { part = e; is = ap (λ (p : ℕ). QFlatten p e) (sym h.0.1); spells = closed_from B L same e v g })))
  itself_from (QSomeMember p e) t w h =
      subst (λ k. PrimRest l k t.at (QSomeMember p e) w) (sym h.0.0)
      (deeper_from l B agree (λ L. Ahead (KSign s.Open) (SomeIn t.at L)) (QSomeMember p e) w (opened _ w h.1 (λ n v g. no_closed B e v g n))
      (λ L same. behind_open (SomeIn t.at L) _ (QSomeMember p e) w h.1 (λ v g. record { part = e; is = ap (λ (p : ℕ). QSomeMember p e) (sym h.0.1); spells = closed_from B L same e v g })))
  itself_from _ t w h = absurd h

  itself_full : (e : QueryTree) → ItselfText B e [] → ⊥
  itself_full (QName p x) h = h
  itself_full (QLiteral p v) h = h
  itself_full (QSetOf p vs) h = h
  itself_full (QStruct p fs) h = h
  itself_full (QFlatten p e) h = h
  itself_full (QSomeMember p e) h = h
  itself_full _ h = h

  pub prim_from : (e : QueryTree) (w : List Placed) → PrimText B e w → Prim l e w
  prim_from e [] (inl h) = absurd (itself_full e h)
  prim_from e [] (inr h) = absurd h
  prim_from e (t ∷ w) (inl h) = itself_from e t w h
  prim_from e (t ∷ w) (inr h) = subst (λ k. PrimRest l k t.at e w) (sym h.0) (deeper_from l B agree (λ L. Closed (L.full false)) e w (no_closed B e w h.1) (λ L same. closed_from B L same e w h.1))

-- ---- paths, intersections, unions

label_links_to : (k : Kind) (x : Named) (w : List Placed) → PathLinks k x w → ((k ≡ KSign s.Dot) ⊎ (k ≡ KSign s.Arrow)) × NameText x w
label_links_to (KSign s.Dot) x w h = (inl refl, h)
label_links_to (KSign s.Arrow) x w h = (inr refl, h)
label_links_to _ x w h = absurd h

abbrev DotOrArrow : Placed → Type 0
DotOrArrow t = (kind t ≡ KSign s.Dot) ⊎ (kind t ≡ KSign s.Arrow)

label_links_from : (t : Placed) (x : Named) (w : List Placed) → DotOrArrow t → NameText x w → PathLinks (kind t) x w
label_links_from t x w (inl e) h = subst (λ k. PathLinks k x w) (sym e) h
label_links_from t x w (inr e) h = subst (λ k. PathLinks k x w) (sym e) h

abbrev stored : Named → List ℕ × ℕ
stored x = (x.name, x.at)

abbrev same_link : {A : Type 0} → A → A
same_link x = x

module _ (n : ℕ) (l : Inner) (B : Deeper) (agree : Agree l B) where
  path_to : (e : QueryTree) (w : List Placed) → PathBy n (Prim l) e w → PathText n B e w
  path_to e w h = linked_to stored (λ t. PathLinks (kind t)) (λ x. leads DotOrArrow (LabelText x)) path_of (Prim l) (PrimText B) (λ t x w g. label_links_to (kind t) x w g) (prim_to l B agree) n e w h

  path_from : (e : QueryTree) (w : List Placed) → PathText n B e w → PathBy n (Prim l) e w
  path_from e w h =
      linked_from stored (λ t. PathLinks (kind t)) (λ x. leads DotOrArrow (LabelText x)) path_of (Prim l) (PrimText B) (λ x t w g. (named x.0 x.1, refl, label_links_from t (named x.0 x.1) w g.0 g.1)) (λ x g. g) (prim_from l B agree) n e w h

  meet_link_to : (t : Placed) (k : Kind) (x : ℕ × QueryTree) (w : List Placed) → kind t ≡ k → MeetLinks (PathBy n (Prim l)) t.at k x w → at q.Intersect x.0 (PathText n B x.1) (t ∷ w)
  meet_link_to t (KWord q.Intersect) x w e h =
      ((e, ap (λ (z : ℕ × QueryTree). z.0) (sym h.is)), subst (λ (z : ℕ × QueryTree). PathText n B z.1 w) (sym h.is) (path_to h.part w h.spells))
  meet_link_to t _ x w e h = absurd h

  meet_link_from : (x : ℕ × QueryTree) (t : Placed) (w : List Placed) → at q.Intersect x.0 (PathText n B x.1) (t ∷ w) → MeetLinks (PathBy n (Prim l)) t.at (kind t) x w
  meet_link_from x t w h =
      subst (λ k. MeetLinks (PathBy n (Prim l)) t.at k x w) (sym h.0.0) (record { part = x.1; is = ap (λ (p : ℕ). (p, x.1)) (sym h.0.1); spells = path_from x.1 w h.1 })

  meet_to : (e : QueryTree) (w : List Placed) → MeetFrom n l (Prim l) e w → MeetText n B e w
  meet_to e w h =
      linked_to same_link (λ t. MeetLinks (PathBy n (Prim l)) t.at (kind t)) (λ x. at q.Intersect x.0 (PathText n B x.1)) intersect_of (PathBy n (Prim l)) (PathText n B) (λ t x w g. meet_link_to t (kind t) x w refl g) path_to n e w h

  meet_from : (e : QueryTree) (w : List Placed) → MeetText n B e w → MeetFrom n l (Prim l) e w
  meet_from e w h =
      linked_from same_link (λ t. MeetLinks (PathBy n (Prim l)) t.at (kind t)) (λ x. at q.Intersect x.0 (PathText n B x.1)) intersect_of (PathBy n (Prim l)) (PathText n B) (λ x t w g. (x, refl, meet_link_from x t w g)) (λ x g. g) path_from n e w h

  abbrev UnionLink : ℕ × Bool × QueryTree → Text
  UnionLink x = at (union_word x.1) x.0 (MeetText n B x.2)

  union_is : (t : Placed) (b : Bool) (x : ℕ × Bool × QueryTree) (w : List Placed) → kind t ≡ KWord (union_word b) → Made (set_operand t.at b) (MeetFrom n l (Prim l)) x w → UnionLink x (t ∷ w)
  union_is t b x w e h = subst (λ (z : ℕ × Bool × QueryTree). UnionLink z (t ∷ w)) (sym h.is) ((e, refl), meet_to h.part w h.spells)

  union_link_to : (t : Placed) (k : Kind) (x : ℕ × Bool × QueryTree) (w : List Placed) → kind t ≡ k → UnionLinks (MeetFrom n l (Prim l)) t.at k x w → UnionLink x (t ∷ w)
  union_link_to t (KWord q.Union) x w e h = union_is t false x w e h
  union_link_to t (KWord q.Except) x w e h = union_is t true x w e h
  union_link_to t _ x w e h = absurd h

  union_made : (b : Bool) (p : ℕ) (x : ℕ × Bool × QueryTree) (w : List Placed) → x.1 ≡ b → p ≡ x.0 → MeetFrom n l (Prim l) x.2 w → UnionLinks (MeetFrom n l (Prim l)) p (KWord (union_word b)) x w
  union_made true p x w e i h = record { part = x.2; is = ap (λ (c : Bool). (x.0, c, x.2)) e ∙ ap (λ (z : ℕ). (z, true, x.2)) (sym i); spells = h }
  union_made false p x w e i h = record { part = x.2; is = ap (λ (c : Bool). (x.0, c, x.2)) e ∙ ap (λ (z : ℕ). (z, false, x.2)) (sym i); spells = h }

  union_link_from : (x : ℕ × Bool × QueryTree) (t : Placed) (w : List Placed) → UnionLink x (t ∷ w) → UnionLinks (MeetFrom n l (Prim l)) t.at (kind t) x w
  union_link_from x t w h = subst (λ k. UnionLinks (MeetFrom n l (Prim l)) t.at k x w) (sym h.0.0) (union_made x.1 t.at x w refl h.0.1 (meet_from x.2 w h.1))

  pub sets_to : (e : QueryTree) (w : List Placed) → Sets n l e w → SetsText n B e w
  sets_to e w h =
      linked_to same_link (λ t. UnionLinks (MeetFrom n l (Prim l)) t.at (kind t)) UnionLink union_of (MeetFrom n l (Prim l)) (MeetText n B) (λ t x w g. union_link_to t (kind t) x w refl g) meet_to n e w h

  pub sets_from : (e : QueryTree) (w : List Placed) → SetsText n B e w → Sets n l e w
  sets_from e w h =
      linked_from same_link (λ t. UnionLinks (MeetFrom n l (Prim l)) t.at (kind t)) UnionLink union_of (MeetFrom n l (Prim l)) (MeetText n B) (λ x t w g. (x, refl, union_link_from x t w g)) (λ x g. g) meet_from n e w h

  -- ---- comparisons

  comparing_to : (a e : QueryTree) (x : Tail) (w u v : List Placed) → w ≡ u ++ v → Sets n l a u → Comparing (Sets n l) a (e, x) v → ComparedText n B e w
  comparing_to a e x w u [] i f h = absurd h
  comparing_to a e x w u (t ∷ v) i f (z, b, j, k, h) =
      subst (λ y. ComparedText n B y w) (sym (ap (λ (z : Tailed). z.0) h)) (record { front = u; back = t ∷ v; split = i; first = sets_to a u f; second = ((j, refl), sets_to b v k) })

  pub cmp_to : (e : QueryTree) (x : Tail) (w : List Placed) → CmpFrom n l (Prim l) (e, x) w → CmpText n B e w
  cmp_to e x w c = by (cmp_cases (Sets n l) n c.first.part (e, x) c.back (subst (λ (z : Tailed). CmpChain (Sets n l) (suc n) z (e, x) c.back) c.first.is c.second))
    where
      by : (((let v : Tailed = (e, x) in v) ≡ (let z : Tailed = (c.first.part, Plain) in z)) × ends c.back) ⊎ Comparing (Sets n l) c.first.part (e, x) c.back → CmpText n B e w
      by (inl h) =
          let whole : w ≡ c.front = c.split ∙ ap (λ (z : List Placed). c.front ++ z) (nil_of c.back h.1) ∙ append-nil c.front in
          inl (subst (SetsText n B e) (sym whole) (subst (λ y. SetsText n B y c.front) (sym (ap (λ (z : Tailed). z.0) h.0)) (sets_to c.first.part c.front c.first.spells)))
      by (inr h) = inr (comparing_to c.first.part e x w c.front c.back c.split c.first.spells h)

  comparing_from : (e : QueryTree) (w : List Placed) → ComparedText n B e w → CmpFrom n l (Prim l) (e, Compared) w
  comparing_from (QCompare p z a b) w h = by h.back h.split h.second
    where
      by : (v : List Placed) → w ≡ h.front ++ v → ComparisonAt z p (SetsText n B b) v → CmpFrom n l (Prim l) (QCompare p z a b, Compared) w
      by [] i g = absurd g
      by (t ∷ v) i g =
          record {
            mid = (a, Plain);
            front = h.front;
            back = t ∷ v;
            split = i;
            first = record { part = a; is = refl; spells = sets_from a h.front h.first };
            second = cmp_link (Sets n l) n a (QCompare p z a b, Compared) (t ∷ v) (z, b, g.0.0, sets_from b v g.1, ap (λ (p : ℕ). compared (a, Plain) (p, z, b)) (sym g.0.1));
          }
  comparing_from _ w h = absurd h

  pub cmp_from : (e : QueryTree) (w : List Placed) → CmpText n B e w → (x : Tail) × (is_open x ≡ false) × CmpFrom n l (Prim l) (e, x) w
  cmp_from e w (inl h) = (Plain, refl, record { mid = (e, Plain); front = w; back = []; split = sym (append-nil w); first = record { part = e; is = refl; spells = sets_from e w h }; second = refl })
  cmp_from e w (inr h) = (Compared, refl, comparing_from e w h)

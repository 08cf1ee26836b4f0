-- On every level a text that may take the next label of a struct with it is one that may not, and such a label.
use Rattle.std.proofs.Common.{◌≡◌, ◌⊎◌, inl, inr, ℕ, zero, suc, Bool, true, false, List, [], ◌∷◌, ◌++◌, Option, Some, None, append_assoc, refl, sym, ap, subst, ◌∙◌}
use Rattle.std.proofs.lemmas.List.{append-nil}
use Rattle.kola_base.specs.Named.{Named, NameText}
use Rattle.kola_base.specs.Placed.{Placed}
use Rattle.kola_base.specs.declared.sign.Sign.TheVariants as s
use Rattle.kola_parse.specs.Kinds.{Lang, leads}
use Rattle.kola_parse.specs.Texts.{◌·◌, ends, Nothing, Chained, Made, ChainText}
use Rattle.kola_parse.proofs.ReaderLaws.{nil_of}
use Rattle.oql_syntax.specs.Alphabet.{Kind, KSign, KWord, KName, kind}
use Rattle.oql_tree.specs.QueryTrees.{QueryTree, QNot, QAnd, QOr, QCompare, QExists, QForAll, QSelect, QueryWhere, NoWhere, Where, of_ranges}
use Rattle.oql_syntax.specs.QueryReaders.{Tailed, RangeParts, RangesTailed, comparison_of, compared, placed_operand, SelectParts, no_where, with_where, selected, Next, ARange, ALabel, more_ranges}
use Rattle.oql_syntax.specs.Tails.{Tail, Plain, Compared, Ranged, Labelled, opened}
use Rattle.oql_tree.specs.declared.query.Sign as comparison
use Rattle.oql_syntax.specs.declared.word.QueryWord.TheVariants as q
use Rattle.oql_syntax.proofs.QuerySymbols.{Variable}
use Rattle.oql_syntax.proofs.LevelLaws.{Texts, Inner, Nowhere, Level_of, Deeper, Sets, ComparisonBy, ComparisonLinks, CmpFrom, SomeIn, PrimRest, Quantified, ExistsRest, NotRest, OpenNot, AndLinks, OrLinks, AndFrom, OpenAnd, OpenOrFrom, WhereLinks, SelectRest, FullRest, Full}
use Rattle.oql_syntax.proofs.RangeLaws.{NextText, CommaLinks, Ranges}
use Rattle.oql_syntax.proofs.WholeQueryLaws.{texts, inner}
use Rattle.oql_syntax.proofs.LinkedTexts.{is_open, OpenLinkTo, OpenLinkFrom}
use Rattle.oql_syntax.proofs.NextLaws.{NextIs, next_to, next_from}
use Rattle.oql_syntax.proofs.Modes.{LabelTail, Extends, Extended, extended, Moded, moded_none, moded_closed, moded_led, moded_ahead, moded_chained, moded_made, moded_opened, opening, moded_linked}

-- ---- links

placed_is : (L : Lang Placed Tailed) (p : ℕ) (l : ℕ × QueryTree × Tail) (w : List Placed) → Made (placed_operand p) L l w → (l.0 ≡ p) × L (l.1, l.2) w
placed_is L p l w h = (ap (λ (z : ℕ × QueryTree × Tail). z.0) h.is, subst (λ (z : ℕ × QueryTree × Tail). L (z.1, z.2) w) (sym h.is) h.spells)

pub and_out : (L : Lang Placed Tailed) → OpenLinkTo q.And L (AndLinks L)
and_out L Plain p (KWord q.And) l w h = let i = placed_is L p l w h in (refl, refl, i.0, i.1)
and_out L Compared p (KWord q.And) l w h = let i = placed_is L p l w h in (refl, refl, i.0, i.1)
and_out L _ p _ l w h = absurd h

pub and_into : (L : Lang Placed Tailed) → OpenLinkFrom q.And L (AndLinks L)
and_into L Plain p e y w c h = record { part = (e, y); is = refl; spells = h }
and_into L Compared p e y w c h = record { part = (e, y); is = refl; spells = h }
and_into L _ p e y w c h = absurd cc

pub or_out : (L : Lang Placed Tailed) → OpenLinkTo q.Or L (OrLinks L)
or_out L Plain p (KWord q.Or) l w h = let i = placed_is L p l w h in (refl, refl, i.0, i.1)
or_out L Compared p (KWord q.Or) l w h = let i = placed_is L p l w h in (refl, refl, i.0, i.1)
or_out L _ p _ l w h = absurd h

pub or_into : (L : Lang Placed Tailed) → OpenLinkFrom q.Or L (OrLinks L)
or_into L Plain p e y w c h = record { part = (e, y); is = refl; spells = h }
or_into L Compared p e y w c h = record { part = (e, y); is = refl; spells = h }
or_into L _ p e y w c h = absurd cc

-- ---- comparisons

-- the sign of a comparison and the second side
abbrev pub Comparing : Lang Placed QueryTree → QueryTree → Lang Placed Tailed
Comparing S a v [] = ⊥
Comparing S a v (t ∷ u) = (z : comparison.Sign) × (b : QueryTree) × (comparison_of (kind t) ≡ Some z) × S b u × (v ≡ compared (a, Plain) (t.at, z, b))

abbrev pub CmpChain : Lang Placed QueryTree → ℕ → Tailed → Lang Placed Tailed
CmpChain S n a = ChainText (λ (v : Tailed) t. ComparisonLinks S v.1 t.at (kind t)) compared n a

behind_compared : (S : Lang Placed QueryTree) (n : ℕ) (e : QueryTree) (v : Tailed) (w : List Placed) → CmpChain S n (e, Compared) v w → (v ≡ (let z : Tailed = (e, Compared) in z)) × ends w
behind_compared S zero e v [] h = (h, tt)
behind_compared S zero e v (t ∷ w) h = absurd h
behind_compared S (suc n) e v [] h = (h, tt)
behind_compared S (suc n) e v (t ∷ w) h = absurd h.first

pub cmp_cases : (S : Lang Placed QueryTree) (n : ℕ) (a : QueryTree) (v : Tailed) (w : List Placed) → CmpChain S (suc n) (a, Plain) v w → ((v ≡ (let z : Tailed = (a, Plain) in z)) × ends w) ⊎ Comparing S a v w
cmp_cases S n a v [] h = inl (h, tt)
cmp_cases S n a v (t ∷ w) h = by (comparison_of (kind t)) refl h.mid h.front h.back h.split h.first h.second
  where
    by : (o : Option comparison.Sign) → comparison_of (kind t) ≡ o → (l : ℕ × comparison.Sign × QueryTree) (f g : List Placed) → w ≡ f ++ g → ComparisonBy S t.at o l f → CmpChain S n (compared (a, Plain) l) v g → ((v ≡ (let z : Tailed = (a, Plain) in z)) × ends (t ∷ w)) ⊎ Comparing S a v (t ∷ w)
    by None i l f g e k r = absurd k
    by (Some z) i l f g e k r =
        let d = behind_compared S n (QCompare l.0 l.1 a l.2) v g r in
        let whole : w ≡ f = e ∙ ap (λ (z : List Placed). f ++ z) (nil_of g d.1) ∙ append-nil f in
        inr (z, k.part, i, subst (S k.part) (sym whole) k.spells, d.0 ∙ ap (compared (a, Plain)) k.is)

pub cmp_link : (S : Lang Placed QueryTree) (n : ℕ) (a : QueryTree) (v : Tailed) (w : List Placed) → Comparing S a v w → CmpChain S (suc n) (a, Plain) v w
cmp_link S n a v [] h = absurd h
cmp_link S n a v (t ∷ u) (z, b, i, k, e) = record { mid = (t.at, z, b); front = u; back = []; split = sym (append-nil u); first = subst (λ o. ComparisonBy S t.at o (t.at, z, b) u) (sym i) (record { part = b; is = refl; spells = k }); second = stop n e }
  where
    stop : (n : ℕ) → v ≡ compared (a, Plain) (t.at, z, b) → CmpChain S n (compared (a, Plain) (t.at, z, b)) v []
    stop zero e = e
    stop (suc n) e = e

closed_by : (S : Lang Placed QueryTree) (a e : QueryTree) (x : Tail) (w : List Placed) → (((let v : Tailed = (e, x) in v) ≡ (let z : Tailed = (a, Plain) in z)) × ends w) ⊎ Comparing S a (e, x) w → is_open x ≡ false
closed_by S a e x w (inl h) = ap (λ (z : Tailed). is_open z.1) h.0
closed_by S a e x [] (inr h) = absurd h
closed_by S a e x (t ∷ w) (inr (z, b, i, k, h)) = ap (λ (z : Tailed). is_open z.1) h

pub cmp_closed : (n : ℕ) (l : Inner) (L : Lang Placed QueryTree) (e : QueryTree) (x : Tail) (w : List Placed) → CmpFrom n l L (e, x) w → is_open x ≡ false
cmp_closed n l L e x w c = closed_by (Sets n l) c.first.part e x c.back (cmp_cases (Sets n l) n c.first.part (e, x) c.back (subst (λ (z : Tailed). CmpChain (Sets n l) (suc n) z (e, x) c.back) c.first.is c.second))

-- ---- one level

pub record Modes (L : Texts) : Type 0 where
  pub opennot : Moded (L.opennot true) (L.opennot false)
  pub full : Moded (L.full true) (L.full false)
  pub ranges : Moded (L.ranges true) (L.ranges false)

pub data ModesIn : Inner → Type 1 where
  in_none : ModesIn Nowhere
  in_level : (L : Texts) → Modes L → ModesIn (Level_of L)

moded_deeper : {A : Type 0} {l : Inner} → ModesIn l → (F G : Texts → Lang Placed (A × Tail)) → ((L : Texts) → Modes L → Moded (F L) (G L)) → Moded (Deeper l F) (Deeper l G)
moded_deeper in_none F G h = moded_none
moded_deeper (in_level L m) F G h = h L m

moded_quantified : (k : QueryTree → QueryTree → QueryTree) (L : Texts) → Modes L → Moded (Quantified true k L) (Quantified false k L)
moded_quantified k L m =
    moded_ahead _ _ _ (moded_chained L.sets _ _ (λ r. moded_ahead _ _ _ (moded_opened (k r) (L.full true) (L.full false) m.full)))

moded_cmp : (n : ℕ) (l : Inner) (L : Lang Placed QueryTree) → Moded (CmpFrom n l L) (CmpFrom n l L)
moded_cmp n l L = moded_closed (CmpFrom n l L) (cmp_closed n l L)

moded_exists : (n : ℕ) (l : Inner) (L : Texts) (at : ℕ) (k : Kind) → Modes L → Moded (ExistsRest n true l L at k) (ExistsRest n false l L at k)
moded_exists n l L at (KName x) m = moded_quantified (QExists at x) L m
moded_exists n l L at (KSign s.Open) m = moded_cmp n l (SomeIn at L)
moded_exists n l L at _ m = moded_none

moded_not_rest : (n : ℕ) (l : Inner) → ModesIn l → (k : Kind) (at : ℕ) → Moded (NotRest n true l k at) (NotRest n false l k at)
moded_not_rest n l m (KWord q.Not) at = moded_deeper m _ _ (λ L m. moded_made (QNot at) (L.opennot true) (L.opennot false) m.opennot)
moded_not_rest n l m (KWord q.Exists) at = moded_deeper m _ _ (λ L m. moded_led (λ u. ExistsRest n true l L at (kind u)) (λ u. ExistsRest n false l L at (kind u)) (λ u. moded_exists n l L at (kind u) m))
moded_not_rest n l m (KWord q.For) at = moded_deeper m _ _ (λ L m. moded_ahead _ _ _ (moded_chained Variable _ _ (λ x. moded_quantified (QForAll at x.name) L m)))
moded_not_rest n l m k at = moded_cmp n l (PrimRest l k at)

moded_not : (n : ℕ) (l : Inner) → ModesIn l → Moded (OpenNot n true l) (OpenNot n false l)
moded_not n l m = moded_led (λ t. NotRest n true l (kind t) t.at) (λ t. NotRest n false l (kind t) t.at) (λ t. moded_not_rest n l m (kind t) t.at)

moded_and_from : (n : ℕ) (l : Inner) → ModesIn l → (P R : Lang Placed Tailed) → Moded P R → Moded (AndFrom n (OpenNot n true l) P) (AndFrom n (OpenNot n false l) R)
moded_and_from n l m P R h = moded_linked q.And AndLinks and_out and_into (OpenNot n true l) (OpenNot n false l) (moded_not n l m) QAnd n P R h

moded_or_from : (n : ℕ) (l : Inner) → ModesIn l → (P R : Lang Placed Tailed) → Moded P R → Moded (OpenOrFrom n true l P) (OpenOrFrom n false l R)
moded_or_from n l m P R h =
    let one = moded_not n l m in
    moded_linked q.Or OrLinks or_out or_into (OpenAnd n true l) (OpenAnd n false l) (moded_and_from n l m (OpenNot n true l) (OpenNot n false l) one) QOr n (AndFrom n (OpenNot n true l) P) (AndFrom n (OpenNot n false l) R) (moded_and_from n l m P R h)

-- ---- ranges

abbrev pub CommaChain : Lang Placed Next → ℕ → RangesTailed → Lang Placed RangesTailed
CommaChain L n a = ChainText (λ (x : RangesTailed) t. CommaLinks L x.1 (kind t)) more_ranges n a

-- a comma stands behind ranges
pub comma_out : (L : Lang Placed Next) (x : Tail) (k : Kind) (c : Next) (w : List Placed) → CommaLinks L x k c w → (b : Bool) × (x ≡ Ranged b) × (k ≡ KSign s.Comma) × L c w
comma_out L (Ranged b) (KSign s.Comma) c w h = (b, refl, refl, h)
comma_out L _ _ c w h = absurd h

pub comma_into : (L : Lang Placed Next) (x : Tail) (k : Kind) (c : Next) (w : List Placed) (b : Bool) → x ≡ Ranged b → k ≡ KSign s.Comma → L c w → CommaLinks L x k c w
comma_into L x k c w b e i h = subst (λ y. CommaLinks L y k c w) (sym e) (subst (λ j. CommaLinks L (Ranged b) j c w) (sym i) h)

-- behind a label no range stands
no_more_ranges : (L : Lang Placed Next) (n : ℕ) (rs : List RangeParts) (z : Named) (y : RangesTailed) (w : List Placed) → CommaChain L n (rs, Labelled z.name z.at) y w → (y ≡ (let v : RangesTailed = (rs, Labelled z.name z.at) in v)) × (w ≡ [])
no_more_ranges L zero rs z y [] h = (h, refl)
no_more_ranges L zero rs z y (t ∷ w) h = absurd h
no_more_ranges L (suc n) rs z y [] h = (h, refl)
no_more_ranges L (suc n) rs z y (t ∷ w) h = absurd h.first

abbrev ThenLabel : Lang Placed Next → ℕ → RangesTailed → RangesTailed → List Placed → Type 0
ThenLabel L n a y w = Extended (λ x. CommaChain L n a (y.0, x)) y.1 w

label_tail : (x : Named) (t : Placed) (w : List Placed) → kind t ≡ KSign s.Comma → (NameText x · leads (λ t. kind t ≡ KSign s.Colon) ends) w → LabelTail x (t ∷ w)
label_tail x t w e h = (e, h)

ranges_to : (n : ℕ) (l : Inner) (m : ℕ) (a y : RangesTailed) (w : List Placed) → CommaChain (NextText n l true) m a y w → ThenLabel (NextText n l false) m a y w
ranges_to n l zero a y [] h = extended (λ x. CommaChain (NextText n l false) zero a (y.0, x)) y.1 [] h
ranges_to n l zero a y (t ∷ w) h = absurd h
ranges_to n l (suc m) a y [] h = extended (λ x. CommaChain (NextText n l false) (suc m) a (y.0, x)) y.1 [] h
ranges_to n l (suc m) a y (t ∷ w) h =
    let g = comma_out (NextText n l true) a.1 (kind t) h.mid h.front h.first in
    by (λ d back k. ranges_to n l m d y back k) h.mid h.front h.back h.split g.0 g.1 g.2 (next_to n l h.mid h.front g.3) h.second
  where
    by : ((d : RangesTailed) (back : List Placed) → CommaChain (NextText n l true) m d y back → ThenLabel (NextText n l false) m d y back)
        → (c : Next) (u v : List Placed) → w ≡ u ++ v → (b : Bool) → a.1 ≡ Ranged b → kind t ≡ KSign s.Comma → NextIs n l c u → CommaChain (NextText n l true) m (more_ranges a c) y v → ThenLabel (NextText n l false) (suc m) a y (t ∷ w)
    by go (ARange r) u v e b i j f k =
        let d = go (more_ranges a (ARange r)) v k in
        record {
          tail = d.tail;
          text = t ∷ (u ++ d.text);
          more = d.more;
          split = ap (λ (z : List Placed). t ∷ z) (e ∙ ap (λ (z : List Placed). u ++ z) d.split ∙ sym (append_assoc u d.text d.more));
          ext = d.ext;
          spells = record { mid = ARange r; front = u; back = d.text; split = refl; first = comma_into (NextText n l false) a.1 (kind t) (ARange r) u b i j (record { part = r; is = refl; spells = f }); second = d.spells };
        }
    by go (ALabel x) u v e b i j f k =
        let d = no_more_ranges (NextText n l true) m a.0 x y v k in
        let whole : w ≡ u = e ∙ ap (λ (z : List Placed). u ++ z) d.1 ∙ append-nil u in
        record {
          tail = Ranged b;
          text = [];
          more = t ∷ w;
          split = refl;
          ext = inr (b, x, refl, ap (λ (z : RangesTailed). z.1) d.0, label_tail x t w j (subst (NameText x · leads (λ t. kind t ≡ KSign s.Colon) ends) (sym whole) f));
          spells = ap (λ (z : RangesTailed). (z.0, Ranged b)) d.0 ∙ ap (λ (z : Tail). (a.0, z)) (sym i);
        }

ranges_from : (n : ℕ) (l : Inner) (m : ℕ) (a y : RangesTailed) (x : Tail) (w u : List Placed) → Extends x y.1 u → CommaChain (NextText n l false) m a (y.0, x) w → CommaChain (NextText n l true) (suc m) a y (w ++ u)
ranges_from n l m a y x [] u i h = by u i (stop m h)
  where
    stop : (m : ℕ) → CommaChain (NextText n l false) m a (y.0, x) [] → (let z : RangesTailed = (y.0, x) in z) ≡ a
    stop zero h = h
    stop (suc m) h = h

    by : (u : List Placed) → Extends x y.1 u → (let z : RangesTailed = (y.0, x) in z) ≡ a → CommaChain (NextText n l true) (suc m) a y u
    by [] (inl g) e = ap (λ (z : Tail). (y.0, z)) (sym g.0) ∙ e
    by (t ∷ u) (inl g) e = absurd g.1
    by [] (inr (b, z, f, g, k)) e = absurd k
    by (t ∷ u) (inr (b, z, f, g, k)) e =
        let state : y ≡ more_ranges a (ALabel z) = ap (λ (v : Tail). (y.0, v)) g ∙ ap (λ (v : RangesTailed). (v.0, Labelled z.name z.at)) e in
        record { mid = ALabel z; front = u; back = []; split = sym (append-nil u); first = comma_into (NextText n l true) a.1 (kind t) (ALabel z) u b (sym (ap (λ (v : RangesTailed). v.1) e) ∙ f) k.0 (next_from n l (ALabel z) u k.1); second = last m state }
      where
        last : (m : ℕ) → y ≡ more_ranges a (ALabel z) → CommaChain (NextText n l true) m (more_ranges a (ALabel z)) y []
        last zero e = e
        last (suc m) e = e
ranges_from n l zero a y x (t ∷ w) u i h = absurd h
ranges_from n l (suc m) a y x (t ∷ w) u i h =
    let g = comma_out (NextText n l false) a.1 (kind t) h.mid h.front h.first in
    record {
      mid = h.mid;
      front = h.front;
      back = h.back ++ u;
      split = ap (λ (z : List Placed). z ++ u) h.split ∙ append_assoc h.front h.back u;
      first = comma_into (NextText n l true) a.1 (kind t) h.mid h.front g.0 g.1 g.2 (next_from n l h.mid h.front (plain h.mid h.front g.3));
      second = ranges_from n l m (more_ranges a h.mid) y x h.back u i h.second;
    }
  where
    plain : (c : Next) (v : List Placed) → NextText n l false c v → NextIs n l c v
    plain c v k = subst (λ d. NextIs n l d v) (sym k.is) k.spells

pub moded_ranges : (n : ℕ) (l : Inner) → Moded (Ranges n l true) (Ranges n l false)
moded_ranges n l = record { to = to; from = from }
  where
    to : (rs : List RangeParts) (y : Tail) (w : List Placed) → Ranges n l true (rs, y) w → Extended (λ x. Ranges n l false (rs, x)) y w
    to rs y w c =
        let d = ranges_to n l c.second.0 c.mid (rs, y) c.back c.second.1 in
        record {
          tail = d.tail;
          text = c.front ++ d.text;
          more = d.more;
          split = c.split ∙ ap (λ (z : List Placed). c.front ++ z) d.split ∙ sym (append_assoc c.front d.text d.more);
          ext = d.ext;
          spells = record { mid = c.mid; front = c.front; back = d.text; split = refl; first = c.first; second = (c.second.0, d.spells) };
        }

    from : (rs : List RangeParts) (y : Tail) (w : List Placed) → Extended (λ x. Ranges n l false (rs, x)) y w → Ranges n l true (rs, y) w
    from rs y w e =
        let c = e.spells in
        record {
          mid = c.mid;
          front = c.front;
          back = c.back ++ e.more;
          split = e.split ∙ ap (λ (z : List Placed). z ++ e.more) c.split ∙ append_assoc c.front c.back e.more;
          first = c.first;
          second = (suc c.second.0, ranges_from n l c.second.0 c.mid (rs, y) e.tail c.back e.more e.ext c.second.1);
        }

-- ---- selects: ranges, and at most one condition

abbrev pub IsRanged : Tail → Type 0
IsRanged x = (b : Bool) × (x ≡ Ranged b)

abbrev pub with_condition : ℕ → QueryTree → List RangeParts → ℕ → QueryTree → QueryTree
with_condition at h rs p e = QSelect at h (of_ranges rs) (Where p e)

abbrev pub unconditioned : ℕ → QueryTree → RangesTailed → Tailed
unconditioned at h r = (QSelect at h (of_ranges r.0) NoWhere, r.1)

abbrev pub Condition : Lang Placed Tailed → ℕ → QueryTree → RangesTailed → Lang Placed Tailed
Condition F at h r v [] = ⊥
Condition F at h r v (t ∷ w) = IsRanged r.1 × (kind t ≡ KWord q.Where) × Made (opening (with_condition at h r.0 t.at)) F v w

abbrev pub BehindRanges : Lang Placed Tailed → ℕ → QueryTree → RangesTailed → Lang Placed Tailed
BehindRanges F at h r v w = Nothing (unconditioned at h r) v w ⊎ Condition F at h r v w

abbrev WhereChain : Lang Placed Tailed → ℕ → SelectParts → SelectParts → List Placed → Type 0
WhereChain F n a y w = ChainText (λ (x : SelectParts) t. WhereLinks F x.1 x.2 t.at (kind t)) with_where n a y w

where_out : (F : Lang Placed Tailed) (c : QueryWhere) (x : Tail) (p : ℕ) (k : Kind) (l : ℕ × QueryTree × Tail) (w : List Placed) → WhereLinks F c x p k l w → (c ≡ NoWhere) × IsRanged x × (k ≡ KWord q.Where) × (l.0 ≡ p) × F (l.1, l.2) w
where_out F NoWhere (Ranged b) p (KWord q.Where) l w h = let i = placed_is F p l w h in (refl, (b, refl), refl, i.0, i.1)
where_out F _ _ p _ l w h = absurd h

behind_where : (F : Lang Placed Tailed) (n : ℕ) (rs : List RangeParts) (p : ℕ) (e : QueryTree) (x : Tail) (y : SelectParts) (w : List Placed) → WhereChain F n (rs, Where p e, x) y w → (y ≡ (let v : SelectParts = (rs, Where p e, x) in v)) × (w ≡ [])
behind_where F zero rs p e x y [] h = (h, refl)
behind_where F zero rs p e x y (t ∷ w) h = absurd h
behind_where F (suc n) rs p e x y [] h = (h, refl)
behind_where F (suc n) rs p e x y (t ∷ w) h = absurd h.first

rest_to : (F : Lang Placed Tailed) (n : ℕ) (at : ℕ) (h : QueryTree) (r : RangesTailed) (y : SelectParts) (v : Tailed) (w : List Placed) → v ≡ selected at h y → WhereChain F (suc n) (no_where r) y w → BehindRanges F at h r v w
rest_to F n at h r y v [] e k = inl (e ∙ ap (selected at h) k, tt)
rest_to F n at h r y v (t ∷ w) e k =
    let g = where_out F NoWhere r.1 t.at (kind t) k.mid k.front k.first in
    let d = behind_where F n r.0 k.mid.0 k.mid.1 (opened k.mid.2) y k.back k.second in
    let whole : w ≡ k.front = k.split ∙ ap (λ (z : List Placed). k.front ++ z) d.1 ∙ append-nil k.front in
    inr (
      g.1,
      g.2,
      record {
        part = (k.mid.1, k.mid.2);
        is = e ∙ ap (selected at h) d.0 ∙ ap (λ (p : ℕ). opening (with_condition at h r.0 p) (k.mid.1, k.mid.2)) g.3;
        spells = subst (F (k.mid.1, k.mid.2)) (sym whole) g.4;
      },
    )

where_link : (F : Lang Placed Tailed) (x : Tail) (p : ℕ) (k : Kind) (v : Tailed) (w : List Placed) → IsRanged x → k ≡ KWord q.Where → F v w → WhereLinks F NoWhere x p k (p, v.0, v.1) w
where_link F x p k v w (b, e) i h = subst (λ y. WhereLinks F NoWhere y p k (p, v.0, v.1) w) (sym e) (subst (λ j. WhereLinks F NoWhere (Ranged b) p j (p, v.0, v.1) w) (sym i) (record { part = v; is = refl; spells = h }))

where_stop : (F : Lang Placed Tailed) (n : ℕ) (a : SelectParts) → WhereChain F n a a []
where_stop F zero a = refl
where_stop F (suc n) a = refl

abbrev pub SelectForm : Lang Placed RangesTailed → Lang Placed Tailed → ℕ → QueryTree → Lang Placed Tailed
SelectForm R F at h = Chained R (BehindRanges F at h)

pub select_to : (n : ℕ) (b : Bool) (L : Texts) (at : ℕ) (h : QueryTree) (v : Tailed) (w : List Placed) → SelectRest n b L at h v w → SelectForm (L.ranges b) (L.full b) at h v w
select_to n b L at h v w m =
    let c = m.spells in
    record { mid = c.first.part; front = c.front; back = c.back; split = c.split; first = c.first.spells; second = rest_to (L.full b) n at h c.first.part m.part v c.back m.is (subst (λ (z : SelectParts). WhereChain (L.full b) (suc n) z m.part c.back) c.first.is c.second) }

pub select_from : (n : ℕ) (b : Bool) (L : Texts) (at : ℕ) (h : QueryTree) (v : Tailed) (w : List Placed) → SelectForm (L.ranges b) (L.full b) at h v w → SelectRest n b L at h v w
select_from n b L at h v w c = by c.back c.split c.second
  where
    by : (back : List Placed) → w ≡ c.front ++ back → BehindRanges (L.full b) at h c.mid v back → SelectRest n b L at h v w
    by back e (inl g) =
        record {
          part = no_where c.mid;
          is = g.0;
          spells = record { mid = no_where c.mid; front = c.front; back = back; split = e; first = record { part = c.mid; is = refl; spells = c.first }; second = subst (WhereChain (L.full b) (suc n) (no_where c.mid) (no_where c.mid)) (sym (nil_of back g.1)) refl };
        }
    by [] e (inr g) = absurd g
    by (t ∷ u) e (inr g) =
        let f = g.2.part in
        record {
          part = with_where (no_where c.mid) (t.at, f.0, f.1);
          is = g.2.is;
          spells = record {
            mid = no_where c.mid;
            front = c.front;
            back = t ∷ u;
            split = e;
            first = record { part = c.mid; is = refl; spells = c.first };
            second = record { mid = (t.at, f.0, f.1); front = u; back = []; split = sym (append-nil u); first = where_link (L.full b) c.mid.1 t.at (kind t) f u g.0 g.1 g.2.spells; second = where_stop (L.full b) n (with_where (no_where c.mid) (t.at, f.0, f.1)) };
          };
        }

-- ranges are not extended before a condition
ranged_same : (x y : Tail) (u : List Placed) → IsRanged y → Extends x y u → (x ≡ y) × (u ≡ [])
ranged_same x y u r (inl h) = (h.0, nil_of u h.1)
ranged_same x y u (c, e) (inr (b, l, i, j, h)) = absurd (let k = sym e ∙ j in cc)

module _ (R P : Lang Placed RangesTailed) (F G : Lang Placed Tailed) (ranges : Moded R P) (full : Moded F G) (at : ℕ) (h : QueryTree) where
  moded_form_to : (e : QueryTree) (y : Tail) (w : List Placed) → SelectForm R F at h (e, y) w → Extended (λ x. SelectForm P G at h (e, x)) y w
  moded_form_to e y w c = by c.back c.split c.second
    where
      by : (back : List Placed) → w ≡ c.front ++ back → BehindRanges F at h c.mid (e, y) back → Extended (λ x. SelectForm P G at h (e, x)) y w
      by back i (inl g) =
          let one = ranges.to c.mid.0 c.mid.1 c.front c.first in
          let whole : w ≡ c.front = i ∙ ap (λ (z : List Placed). c.front ++ z) (nil_of back g.1) ∙ append-nil c.front in
          record {
            tail = one.tail;
            text = one.text;
            more = one.more;
            split = whole ∙ one.split;
            ext = subst (λ z. Extends one.tail z one.more) (sym (ap (λ (z : Tailed). z.1) g.0)) one.ext;
            spells = record { mid = (c.mid.0, one.tail); front = one.text; back = []; split = sym (append-nil one.text); first = one.spells; second = inl (ap (λ (z : Tailed). (z.0, one.tail)) g.0, tt) };
          }
      by [] i (inr g) = absurd g
      by (t ∷ u) i (inr g) =
          let one = ranges.to c.mid.0 c.mid.1 c.front c.first in
          let same = ranged_same one.tail c.mid.1 one.more g.0 one.ext in
          let two = (moded_opened (with_condition at h c.mid.0 t.at) F G full).to e y u g.2 in
          record {
            tail = two.tail;
            text = one.text ++ t ∷ two.text;
            more = two.more;
            split =
                i
                ∙ ap (λ (z : List Placed). z ++ t ∷ u) (one.split ∙ ap (λ (z : List Placed). one.text ++ z) same.1 ∙ append-nil one.text)
                ∙ ap (λ (z : List Placed). one.text ++ t ∷ z) two.split
                ∙ sym (append_assoc one.text (t ∷ two.text) two.more);
            ext = two.ext;
            spells = record { mid = (c.mid.0, one.tail); front = one.text; back = t ∷ two.text; split = refl; first = one.spells; second = inr ((g.0.0, same.0 ∙ g.0.1), g.1, two.spells) };
          }

  moded_form_from : (e : QueryTree) (y : Tail) (w : List Placed) → Extended (λ x. SelectForm P G at h (e, x)) y w → SelectForm R F at h (e, y) w
  moded_form_from e y w g = by g.spells g.spells.back g.spells.split g.spells.second
    where
      by : (c : SelectForm P G at h (e, g.tail) g.text) (back : List Placed) → g.text ≡ c.front ++ back → BehindRanges G at h c.mid (e, g.tail) back → SelectForm R F at h (e, y) w
      by c back i (inl k) =
          let whole : g.text ≡ c.front = i ∙ ap (λ (z : List Placed). c.front ++ z) (nil_of back k.1) ∙ append-nil c.front in
          record {
            mid = (c.mid.0, y);
            front = w;
            back = [];
            split = sym (append-nil w);
            first = ranges.from c.mid.0 y w (record { tail = c.mid.1; text = c.front; more = g.more; split = g.split ∙ ap (λ (z : List Placed). z ++ g.more) whole; ext = subst (λ z. Extends z y g.more) (ap (λ (z : Tailed). z.1) k.0) g.ext; spells = c.first });
            second = inl (ap (λ (z : Tailed). (z.0, y)) k.0, tt);
          }
      by c [] i (inr k) = absurd k
      by c (t ∷ u) i (inr k) =
          let last : Extended (λ x. P (c.mid.0, x)) c.mid.1 c.front = extended (λ x. P (c.mid.0, x)) c.mid.1 c.front c.first in
          record {
            mid = c.mid;
            front = c.front;
            back = t ∷ (u ++ g.more);
            split = g.split ∙ ap (λ (z : List Placed). z ++ g.more) i ∙ append_assoc c.front (t ∷ u) g.more;
            first = ranges.from c.mid.0 c.mid.1 c.front last;
            second = inr (k.0, k.1, (moded_opened (with_condition at h c.mid.0 t.at) F G full).from e y (u ++ g.more) (record { tail = g.tail; text = u; more = g.more; split = refl; ext = g.ext; spells = k.2 }));
          }

  moded_form : Moded (SelectForm R F at h) (SelectForm P G at h)
  moded_form = record { to = moded_form_to; from = moded_form_from }

moded_rest : (n : ℕ) (L : Texts) (at : ℕ) (h : QueryTree) → Modes L → Moded (SelectRest n true L at h) (SelectRest n false L at h)
moded_rest n L at h m = record { to = to; from = from }
  where
    to : (e : QueryTree) (y : Tail) (w : List Placed) → SelectRest n true L at h (e, y) w → Extended (λ x. SelectRest n false L at h (e, x)) y w
    to e y w k =
        let d = moded_form_to (L.ranges true) (L.ranges false) (L.full true) (L.full false) m.ranges m.full at h e y w (select_to n true L at h (e, y) w k) in
        record { tail = d.tail; text = d.text; more = d.more; split = d.split; ext = d.ext; spells = select_from n false L at h (e, d.tail) d.text d.spells }

    from : (e : QueryTree) (y : Tail) (w : List Placed) → Extended (λ x. SelectRest n false L at h (e, x)) y w → SelectRest n true L at h (e, y) w
    from e y w d =
        select_from n true L at h (e, y) w
        (moded_form_from (L.ranges true) (L.ranges false) (L.full true) (L.full false) m.ranges m.full at h e y w (record { tail = d.tail; text = d.text; more = d.more; split = d.split; ext = d.ext; spells = select_to n false L at h (e, d.tail) d.text d.spells }))

-- ---- all levels

moded_full_rest : (n : ℕ) (l : Inner) → ModesIn l → (k : Kind) (at : ℕ) → Moded (FullRest n true l k at) (FullRest n false l k at)
moded_full_rest n l m (KWord q.Select) at = moded_deeper m _ _ (λ L m. moded_ahead _ _ _ (moded_chained (L.full false) _ _ (λ h. moded_ahead _ _ _ (moded_rest n L at h.0 m))))
moded_full_rest n l m k at = moded_or_from n l m (NotRest n true l k at) (NotRest n false l k at) (moded_not_rest n l m k at)

pub moded_full : (n : ℕ) (l : Inner) → ModesIn l → Moded (Full n true l) (Full n false l)
moded_full n l m = moded_led (λ t. FullRest n true l (kind t) t.at) (λ t. FullRest n false l (kind t) t.at) (λ t. moded_full_rest n l m (kind t) t.at)

pub modes : (n d : ℕ) → ModesIn (inner n d)
modes n zero = in_none
modes n (suc d) =
    let m = modes n d in
    in_level (texts n (inner n d)) (record { opennot = moded_not n (inner n d) m; full = moded_full n (inner n d) m; ranges = moded_ranges n (inner n d) })

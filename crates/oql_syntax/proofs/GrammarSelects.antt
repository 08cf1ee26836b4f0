-- What the readers read is what the grammar says: ranges and selects.
use Rattle.std.proofs.Common.{◌≡◌, inl, inr, ℕ, zero, suc, Bool, true, false, List, [], ◌∷◌, ◌++◌, append_assoc, refl, sym, ap, subst, ◌∙◌}
use Rattle.std.proofs.lemmas.List.{append-nil}
use Rattle.kola_base.specs.Named.{Named}
use Rattle.kola_base.specs.Placed.{Placed}
use Rattle.kola_base.specs.declared.sign.Sign.TheVariants as s
use Rattle.kola_parse.specs.Listed.{Listed}
use Rattle.kola_parse.specs.Texts.{◌·◌, ends, Made, Led}
use Rattle.kola_parse.proofs.ReaderLaws.{nil_of}
use Rattle.oql_syntax.specs.Alphabet.{Kind, KSign, KWord, KName, kind}
use Rattle.oql_syntax.specs.Grammar.{Text, ◌▸◌, at, NameAtText, PartedByCommas, Deeper, RangeText, WhereText, SelectText, FullText}
use Rattle.oql_tree.specs.QueryTrees.{QueryTree, QSelect, QueryRanges, QueryWhere, NoWhere, Where, ranges, of_ranges}
use Rattle.oql_syntax.specs.QueryReaders.{named, Tailed, RangeParts, RangesTailed, RangeRead, with_as, Next, ARange, more_ranges}
use Rattle.oql_syntax.specs.Tails.{Tail, Ranged, opened}
use Rattle.oql_syntax.specs.declared.word.QueryWord.TheVariants as q
use Rattle.oql_syntax.proofs.QuerySymbols.{Ahead, no_text, Variable}
use Rattle.oql_syntax.proofs.LevelLaws.{Texts, Inner, Nowhere, Level_of, PrimRest, Prim, Sets, NotRest, OpenOrFrom, SelectRest, Select, FullRest, Full}
use Rattle.oql_syntax.proofs.RangeLaws.{AsFrom, InRest, RangeRest, Range, NextText, Ranges}
use Rattle.oql_syntax.proofs.FirstParts.{as_first, cmp_first, openor_first}
use Rattle.oql_syntax.proofs.NextLaws.{as_range}
use Rattle.oql_syntax.proofs.ModeLaws.{CommaChain, comma_out, comma_into, IsRanged, with_condition, BehindRanges, SelectForm, select_to, select_from}
use Rattle.oql_syntax.proofs.GrammarLaws.{Same, Empty, Agree, ranges_of, of_ranges_of}
use Rattle.oql_syntax.proofs.GrammarNots.{variable_to, variable_from, or_to, or_from}

-- ---- one range

module _ (n : ℕ) (l : Inner) (B : Deeper) (to : (e : QueryTree) (w : List Placed) → Sets n l e w → B.sets e w) (from : (e : QueryTree) (w : List Placed) → B.sets e w → Sets n l e w) where
  range_parts : RangeRead → RangeParts
  range_parts r = (r.0, r.1, r.2)

  as_at : (r : RangeRead) (e : QueryTree) (w u v : List Placed) → w ≡ u ++ v → Sets n l e u → Ahead (KWord q.As) (Made (with_as e) Variable) r v → RangeText B (r.0, r.1, r.2) w
  as_at r e w u [] i f h = absurd h
  as_at r e w u (t ∷ v) i f h =
      let m = h.1 in
      subst (λ (z : RangeRead). RangeText B (z.0, z.1, z.2) w) (sym m.is) (inr (record { front = u; back = t ∷ v; split = i; first = to e u f; second = (h.0, variable_to m.part v m.spells) }))

  as_to : (r : RangeRead) (w : List Placed) → AsFrom n l (Prim l) r w → RangeText B (r.0, r.1, r.2) w
  as_to r w c = as_at r c.mid w c.front c.back c.split c.first c.second

  as_out : (t : Placed) (k : Kind) (r : RangeRead) (w : List Placed) → kind t ≡ k → AsFrom n l (PrimRest l k t.at) r w → RangeText B (r.0, r.1, r.2) (t ∷ w)
  as_out t k r w e h = as_to r (t ∷ w) ((as_first n l).out (λ t. PrimRest l (kind t) t.at) t r w (subst (λ j. AsFrom n l (PrimRest l j t.at) r w) (sym e) h))

  in_to : (x : Named) (r : RangeRead) (t u : Placed) (w : List Placed) (j : Kind) → (kind t ≡ KName x.name) × (t.at ≡ x.at) → kind u ≡ j → InRest n l x j r w → RangeText B (r.0, r.1, r.2) (t ∷ u ∷ w)
  in_to x r t u w (KWord q.In) i e h =
      subst (λ (z : RangeRead). RangeText B (z.0, z.1, z.2) (t ∷ u ∷ w)) (sym h.is) (inl (record { front = t ∷ []; back = u ∷ w; split = refl; first = (i, tt); second = (e, to h.part w h.spells) }))
  in_to x r t u w _ i e h = absurd h

  range_rest_to : (t : Placed) (k : Kind) (r : RangeRead) (w : List Placed) → kind t ≡ k → RangeRest n l k t.at r w → RangeText B (r.0, r.1, r.2) (t ∷ w)
  range_rest_to t (KName y) r [] e (inl h) = absurd h
  range_rest_to t (KName y) r (u ∷ w) e (inl h) = in_to (named y t.at) r t u w (kind u) (e, refl) refl h
  range_rest_to t (KName y) r w e (inr h) = as_out t (KName y) r w e h
  range_rest_to t k r w e h = as_out t k r w e h

  pub range_to : (r : RangeRead) (w : List Placed) → Range n l r w → RangeText B (r.0, r.1, r.2) w
  range_to r [] h = absurd h
  range_to r (t ∷ w) h = range_rest_to t (kind t) r w refl h

  abbrev InOrAs : RangeParts → List Placed → Type 0
  InOrAs r w = (b : Bool) × Range n l (r.0, r.1, r.2, b) w

  in_from : (r : RangeParts) (w u v : List Placed) → w ≡ u ++ v → NameAtText r.0 r.1 u → (KWord q.In ▸ B.sets r.2) v → InOrAs r w
  in_from r w [] v i f g = absurd f
  in_from r w (t ∷ a ∷ u) v i f g = absurd f.1
  in_from r w (t ∷ []) [] i f g = absurd g
  in_from r w (t ∷ []) (c ∷ v) i f g =
      let read : RangeRead = (r.0, r.1, r.2, false) in
      let range : InRest n l (named r.0 t.at) (KWord q.In) read v = record { part = r.2; is = ap (λ (p : ℕ). (r.0, p, r.2, false)) (sym f.0.1); spells = from r.2 v g.1 } in
      (false, subst (Range n l read) (sym i) (subst (λ k. RangeRest n l k t.at read (c ∷ v)) (sym f.0.0) (inl (subst (λ k. InRest n l (named r.0 t.at) k read v) (sym g.0) range))))

  as_led : (r : RangeRead) (w : List Placed) → Led (λ t. AsFrom n l (PrimRest l (kind t) t.at)) r w → Range n l r w
  as_led r [] h = absurd h
  as_led r (t ∷ w) h = as_range n l (kind t) t.at r w h

  as_from : (r : RangeParts) (w u v : List Placed) → w ≡ u ++ v → B.sets r.2 u → (KWord q.As ▸ NameAtText r.0 r.1) v → InOrAs r w
  as_from r w u [] i f g = absurd g
  as_from r w u (t ∷ v) i f g =
      let read : RangeRead = (r.0, r.1, r.2, true) in
      let whole : AsFrom n l (Prim l) read w = record { mid = r.2; front = u; back = t ∷ v; split = i; first = from r.2 u f; second = (g.0, record { part = named r.0 r.1; is = refl; spells = variable_from r.0 r.1 v g.1 }) } in
      (true, as_led read w ((as_first n l).into (λ t. PrimRest l (kind t) t.at) read w whole))

  pub range_from : (r : RangeParts) (w : List Placed) → RangeText B r w → InOrAs r w
  range_from r w (inl h) = in_from r w h.front h.back h.split h.first h.second
  range_from r w (inr h) = as_from r w h.front h.back h.split h.first h.second

  -- ---- all ranges

  abbrev CommaRange : RangeParts → Text
  CommaRange r = KSign s.Comma ▸ RangeText B r

  commas_to : (m : ℕ) (a y : RangesTailed) (w : List Placed) → IsRanged a.1 → CommaChain (NextText n l false) m a y w → (ks : List RangeParts) × (y.0 ≡ a.0 ++ ks) × IsRanged y.1 × Listed CommaRange ends ks w
  commas_to zero a y [] r h = ([], ap (λ (z : RangesTailed). z.0) h ∙ sym (append-nil a.0), (r.0, ap (λ (z : RangesTailed). z.1) h ∙ r.1), tt)
  commas_to zero a y (t ∷ w) r h = absurd h
  commas_to (suc m) a y [] r h = ([], ap (λ (z : RangesTailed). z.0) h ∙ sym (append-nil a.0), (r.0, ap (λ (z : RangesTailed). z.1) h ∙ r.1), tt)
  commas_to (suc m) a y (t ∷ w) r h =
      let g = comma_out (NextText n l false) a.1 (kind t) h.mid h.front h.first in
      let one = g.3.part in
      let d = commas_to m (more_ranges a (ARange one)) y h.back (one.3, refl) (subst (λ (c : Next). CommaChain (NextText n l false) m (more_ranges a c) y h.back) g.3.is h.second) in (
        (one.0, one.1, one.2) ∷ d.0,
        d.1 ∙ append_assoc a.0 ((one.0, one.1, one.2) ∷ []) d.0,
        d.2,
        record { front = t ∷ h.front; back = h.back; split = ap (λ (z : List Placed). t ∷ z) h.split; first = (g.2, range_to one h.front g.3.spells); second = d.3 },
      )

  record Commas (a : RangesTailed) (ks : List RangeParts) (w : List Placed) : Type 0 where
    count : ℕ
    tail : Tail
    ranged : IsRanged tail
    spells : CommaChain (NextText n l false) count a (a.0 ++ ks, tail) w

  commas_from : (ks : List RangeParts) (a : RangesTailed) (w : List Placed) → IsRanged a.1 → Listed CommaRange ends ks w → Commas a ks w
  commas_from [] a [] r h = record { count = 0; tail = a.1; ranged = r; spells = ap (λ (z : List RangeParts). (z, a.1)) (append-nil a.0) }
  commas_from [] a (t ∷ w) r h = absurd h
  commas_from (k ∷ ks) a w r h = by (λ a v r s. commas_from ks a v r s) h.front h.back h.split h.first h.second
    where
      by : ((a : RangesTailed) (v : List Placed) → IsRanged a.1 → Listed CommaRange ends ks v → Commas a ks v) → (u v : List Placed) → w ≡ u ++ v → CommaRange k u → Listed CommaRange ends ks v → Commas a (k ∷ ks) w
      by go [] v i f g = absurd f
      by go (t ∷ u) v i f g =
          let one = range_from k u f.1 in
          let c : Next = ARange (k.0, k.1, k.2, one.0) in
          let d = go (more_ranges a c) v (one.0, refl) g in
          record {
            count = suc d.count;
            tail = d.tail;
            ranged = d.ranged;
            spells =
                subst (CommaChain (NextText n l false) (suc d.count) a (a.0 ++ k ∷ ks, d.tail)) (sym i)
                (record {
                  mid = c;
                  front = u;
                  back = v;
                  split = refl;
                  first = comma_into (NextText n l false) a.1 (kind t) c u r.0 r.1 f.0 (record { part = (k.0, k.1, k.2, one.0); is = refl; spells = one.1 });
                  second = subst (λ (z : List RangeParts). CommaChain (NextText n l false) d.count (more_ranges a c) (z, d.tail) v) (append_assoc a.0 (k ∷ []) ks) d.spells;
                });
          }

  pub ranges_to : (rs : List RangeParts) (x : Tail) (w : List Placed) → Ranges n l false (rs, x) w → IsRanged x × PartedByCommas (RangeText B) ends rs w
  ranges_to rs x w c =
      let r = c.first.part in
      let state : RangesTailed = ((r.0, r.1, r.2) ∷ [], Ranged r.3) in
      let d = commas_to c.second.0 state (rs, x) c.back (r.3, refl) (subst (λ (z : RangesTailed). CommaChain (NextText n l false) c.second.0 z (rs, x) c.back) c.first.is c.second.1) in
      (d.2, subst (λ (z : List RangeParts). PartedByCommas (RangeText B) ends z w) (sym d.1) (record { front = c.front; back = c.back; split = c.split; first = range_to r c.front c.first.spells; second = d.3 }))

  pub ranges_from : (rs : List RangeParts) (w : List Placed) → PartedByCommas (RangeText B) ends rs w → (x : Tail) × IsRanged x × Ranges n l false (rs, x) w
  ranges_from [] w h = absurd h
  ranges_from (r ∷ rs) w h =
      let one = range_from r h.front h.first in
      let state : RangesTailed = (r ∷ [], Ranged one.0) in
      let d = commas_from rs state h.back (one.0, refl) h.second in
      (d.tail, d.ranged, record { mid = state; front = h.front; back = h.back; split = h.split; first = record { part = (r.0, r.1, r.2, one.0); is = refl; spells = one.1 }; second = (d.count, d.spells) })

-- ---- ranges, and then a condition

listed_join : {A : Type 0} (I : A → Text) (Last : Text) (vs : List A) (u z : List Placed) → Listed I ends vs u → Last z → Listed I Last vs (u ++ z)
listed_join I Last [] u z h g = subst (λ (y : List Placed). Last (y ++ z)) (sym (nil_of u h)) g
listed_join I Last (v ∷ vs) u z h g =
    record { front = h.front; back = h.back ++ z; split = ap (λ (y : List Placed). y ++ z) h.split ∙ append_assoc h.front h.back z; first = h.first; second = listed_join I Last vs h.back z h.second g }

parted_join : {A : Type 0} (I : A → Text) (Last : Text) (vs : List A) (u z : List Placed) → PartedByCommas I ends vs u → Last z → PartedByCommas I Last vs (u ++ z)
parted_join I Last [] u z h g = absurd h
parted_join I Last (v ∷ vs) u z h g =
    record { front = h.front; back = h.back ++ z; split = ap (λ (y : List Placed). y ++ z) h.split ∙ append_assoc h.front h.back z; first = h.first; second = listed_join (λ v. KSign s.Comma ▸ I v) Last vs h.back z h.second g }

listed_split : {A : Type 0} (I : A → Text) (Last : Text) (vs : List A) (w : List Placed) → Listed I Last vs w → (Listed I ends vs · Last) w
listed_split I Last [] w h = record { front = []; back = w; split = refl; first = tt; second = h }
listed_split I Last (v ∷ vs) w h =
    let d = listed_split I Last vs h.back h.second in
    record {
      front = h.front ++ d.front;
      back = d.back;
      split = h.split ∙ ap (λ (y : List Placed). h.front ++ y) d.split ∙ sym (append_assoc h.front d.front d.back);
      first = record { front = h.front; back = d.front; split = refl; first = h.first; second = d.first };
      second = d.second;
    }

parted_split : {A : Type 0} (I : A → Text) (Last : Text) (vs : List A) (w : List Placed) → PartedByCommas I Last vs w → (PartedByCommas I ends vs · Last) w
parted_split I Last [] w h = absurd h
parted_split I Last (v ∷ vs) w h =
    let d = listed_split (λ v. KSign s.Comma ▸ I v) Last vs h.back h.second in
    record {
      front = h.front ++ d.front;
      back = d.back;
      split = h.split ∙ ap (λ (y : List Placed). h.front ++ y) d.split ∙ sym (append_assoc h.front d.front d.back);
      first = record { front = h.front; back = d.front; split = refl; first = h.first; second = d.first };
      second = d.second;
    }

-- ---- selects

module _ (n : ℕ) (B : Deeper) (L : Texts) (same : Same L B) where
  abbrev Conditioned : QueryWhere → List RangeParts → Text
  Conditioned c rs = PartedByCommas (RangeText B) (WhereText B c) rs

  -- ranges, and what stands behind them, as a select of the grammar
  record AsSelect (p : ℕ) (h e : QueryTree) (w : List Placed) : Type 0 where
    ranges : List RangeParts
    condition : QueryWhere
    is : e ≡ QSelect p h (of_ranges ranges) condition
    spells : Conditioned condition ranges w

  form_to : (p : ℕ) (h e : QueryTree) (x : Tail) (w : List Placed) → SelectForm (L.ranges false) (L.full false) p h (e, x) w → AsSelect p h e w
  form_to p h e x w c = by c.back c.split c.second
    where
      by : (back : List Placed) → w ≡ c.front ++ back → BehindRanges (L.full false) p h c.mid (e, x) back → AsSelect p h e w
      by back i (inl g) =
          let whole : w ≡ c.front = i ∙ ap (λ (z : List Placed). c.front ++ z) (nil_of back g.1) ∙ append-nil c.front in
          record { ranges = c.mid.0; condition = NoWhere; is = ap (λ (z : Tailed). z.0) g.0; spells = subst (Conditioned NoWhere c.mid.0) (sym whole) (same.ranges_to c.mid.0 c.mid.1 c.front c.first).1 }
      by [] i (inr g) = absurd g
      by (t ∷ u) i (inr g) =
          let f = g.2.part in
          let last : WhereText B (Where t.at f.0) (t ∷ u) = ((g.1, refl), same.full_to f.0 f.1 u g.2.spells) in
          record {
            ranges = c.mid.0;
            condition = Where t.at f.0;
            is = ap (λ (z : Tailed). z.0) g.2.is;
            spells = subst (Conditioned (Where t.at f.0) c.mid.0) (sym i) (parted_join (RangeText B) (WhereText B (Where t.at f.0)) c.mid.0 c.front (t ∷ u) (same.ranges_to c.mid.0 c.mid.1 c.front c.first).1 last);
          }

  select_text_to : (t : Placed) (e : QueryTree) (x : Tail) (w : List Placed) → kind t ≡ KWord q.Select → Select n false t.at L (e, x) w → SelectText B e (t ∷ w)
  select_text_to t e x [] i h = absurd h
  select_text_to t e x (d ∷ w) i h = by h.1.back h.1.split h.1.second
    where
      by : (v : List Placed) → w ≡ h.1.front ++ v → Ahead (KWord q.From) (SelectRest n false L t.at h.1.mid.0) (e, x) v → SelectText B e (t ∷ d ∷ w)
      by [] j g = absurd g
      by (a ∷ v) j g =
          let head = h.1.mid in
          let f = form_to t.at head.0 e x v (select_to n false L t.at head.0 (e, x) v g.1) in
          subst (λ y. SelectText B y (t ∷ d ∷ w)) (sym f.is) (
            (i, refl),
            (h.0, record { front = h.1.front; back = a ∷ v; split = j; first = same.full_to head.0 head.1 h.1.front h.1.first; second = (g.0, subst (λ (rs : List RangeParts). Conditioned f.condition rs v) (sym (ranges_of f.ranges)) f.spells) }),
          )

  form_from : (p : ℕ) (h : QueryTree) (rs : QueryRanges) (c : QueryWhere) (w : List Placed) → Conditioned c (ranges rs) w → (x : Tail) × SelectForm (L.ranges false) (L.full false) p h (QSelect p h rs c, x) w
  form_from p h rs NoWhere w k =
      let d = parted_split (RangeText B) ends (ranges rs) w k in
      let r = same.ranges_from (ranges rs) d.front d.first in
      (r.0, record { mid = (ranges rs, r.0); front = d.front; back = d.back; split = d.split; first = r.2; second = inl (ap (λ (z : QueryRanges). (QSelect p h z NoWhere, r.0)) (sym (of_ranges_of rs)), d.second) })
  form_from p h rs (Where o e) w k = by d.back d.split d.second
    where
      d : (PartedByCommas (RangeText B) ends (ranges rs) · at q.Where o (B.full e)) w
      d = parted_split (RangeText B) (at q.Where o (B.full e)) (ranges rs) w k

      by : (v : List Placed) → w ≡ d.front ++ v → at q.Where o (B.full e) v → (x : Tail) × SelectForm (L.ranges false) (L.full false) p h (QSelect p h rs (Where o e), x) w
      by [] j g = absurd g
      by (t ∷ v) j g =
          let r = same.ranges_from (ranges rs) d.front d.first in
          let f = same.full_from e v g.1 in
          let tree : QSelect p h rs (Where o e) ≡ with_condition p h (ranges rs) t.at e = ap (λ (z : QueryRanges). QSelect p h z (Where o e)) (sym (of_ranges_of rs)) ∙ ap (λ (z : ℕ). with_condition p h (ranges rs) z e) (sym g.0.1) in (
            opened f.0,
            record { mid = (ranges rs, r.0); front = d.front; back = t ∷ v; split = j; first = r.2; second = inr (r.1, g.0.0, record { part = (e, f.0); is = ap (λ (z : QueryTree). (z, opened f.0)) tree; spells = f.1 }) },
          )

  select_text_from : (t : Placed) (e : QueryTree) (w : List Placed) → SelectText B e (t ∷ w) → (kind t ≡ KWord q.Select) × (x : Tail) × Select n false t.at L (e, x) w
  select_text_from t (QSelect p h rs c) [] k = absurd k.1
  select_text_from t (QSelect p h rs c) (d ∷ w) k = let g = by k.1.1.back k.1.1.split k.1.1.second in (k.0.0, g.0, g.1)
    where
      by : (v : List Placed) → w ≡ k.1.1.front ++ v → (KWord q.From ▸ Conditioned c (ranges rs)) v → (x : Tail) × Select n false t.at L (QSelect p h rs c, x) (d ∷ w)
      by [] j g = absurd g
      by (a ∷ v) j g =
          let head = same.full_from h k.1.1.front k.1.1.first in
          let f = form_from t.at h rs c v g.1 in
          let rest = select_from n false L t.at h (QSelect t.at h rs c, f.0) v f.1 in (
            f.0,
            (k.1.0, record { mid = (h, head.0); front = k.1.1.front; back = a ∷ v; split = j; first = head.1; second = (g.0, subst (λ (z : ℕ). SelectRest n false L t.at h (QSelect z h rs c, f.0) v) k.0.1 rest) }),
          )
  select_text_from t _ w k = absurd k

-- ---- where full stands

full_rest_to : (n : ℕ) (l : Inner) (B : Deeper) → Agree l B → (t : Placed) (k : Kind) (e : QueryTree) (x : Tail) (w : List Placed) → kind t ≡ k → FullRest n false l k t.at (e, x) w → FullText n B e (t ∷ w)
full_rest_to n Nowhere B agree t (KWord q.Select) e x w i h = absurd h
full_rest_to n (Level_of L) B same t (KWord q.Select) e x w i h = inl (select_text_to n B L same t e x w i h)
full_rest_to n l B agree t k e x w i h =
    inr (or_to n l B agree true e x (t ∷ w) tt ((openor_first n false l).out (λ t. NotRest n false l (kind t) t.at) t (e, x) w (subst (λ j. OpenOrFrom n false l (NotRest n false l j t.at) (e, x) w) (sym i) h)))

pub full_to : (n : ℕ) (l : Inner) (B : Deeper) → Agree l B → (e : QueryTree) (x : Tail) (w : List Placed) → Full n false l (e, x) w → FullText n B e w
full_to n l B agree e x [] h = absurd h
full_to n l B agree e x (t ∷ w) h = full_rest_to n l B agree t (kind t) e x w refl h

no_select : (n : ℕ) (l : Inner) (p : ℕ) (v : Tailed) (w : List Placed) → OpenOrFrom n false l (NotRest n false l (KWord q.Select) p) v w → ⊥
no_select n l p v w h =
    let one = (openor_first n false l).part (NotRest n false l (KWord q.Select) p) v w h in
    ((cmp_first n l).part no_text one.0 one.1 one.2).2

or_full : (n : ℕ) (l : Inner) (k : Kind) (p : ℕ) (v : Tailed) (w : List Placed) → OpenOrFrom n false l (NotRest n false l k p) v w → FullRest n false l k p v w
or_full n l (KWord q.Select) p v w h = absurd (no_select n l p v w h)
or_full n l k p v w h = h

or_led : (n : ℕ) (l : Inner) (v : Tailed) (w : List Placed) → Led (λ t. OpenOrFrom n false l (NotRest n false l (kind t) t.at)) v w → Full n false l v w
or_led n l v [] h = absurd h
or_led n l v (t ∷ w) h = or_full n l (kind t) t.at v w h

no_select_text : (B : Deeper) → Empty B → (e : QueryTree) (t : Placed) (w : List Placed) → SelectText B e (t ∷ w) → ⊥
no_select_text B n (QSelect p h rs c) t [] k = k.1
no_select_text B n (QSelect p h rs c) t (d ∷ w) k = n.full h k.1.1.front k.1.1.first
no_select_text B n _ t w k = k

select_none : (B : Deeper) (e : QueryTree) → SelectText B e [] → ⊥
select_none B (QSelect p h rs c) k = k
select_none B _ k = k

full_select : (n : ℕ) (l : Inner) (B : Deeper) → Agree l B → (e : QueryTree) (t : Placed) (w : List Placed) → SelectText B e (t ∷ w) → (x : Tail) × Full n false l (e, x) (t ∷ w)
full_select n Nowhere B agree e t w h = absurd (no_select_text B agree e t w h)
full_select n (Level_of L) B same e t w h =
    let g = select_text_from n B L same t e w h in
    (g.1, subst (λ k. FullRest n false (Level_of L) k t.at (e, g.1) w) (sym g.0) g.2)

pub full_from : (n : ℕ) (l : Inner) (B : Deeper) → Agree l B → (e : QueryTree) (w : List Placed) → FullText n B e w → (x : Tail) × Full n false l (e, x) w
full_from n l B agree e [] (inl h) = absurd (select_none B e h)
full_from n l B agree e (t ∷ w) (inl h) = full_select n l B agree e t w h
full_from n l B agree e w (inr h) = let g = or_from n l B agree true e w h in (g.0, or_led n l (e, g.0) w ((openor_first n false l).into (λ t. NotRest n false l (kind t) t.at) (e, g.0) w g.2))

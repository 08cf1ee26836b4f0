-- What the readers read is what the grammar says: the fields of structs, all levels, and whole queries.
use Rattle.std.proofs.Common.{◌≡◌, ◌⊎◌, inl, inr, ℕ, zero, suc, true, false, List, [], ◌∷◌, ◌++◌, append_assoc, refl, sym, ap, subst, ◌∙◌}
use Rattle.std.proofs.lemmas.List.{append-nil}
use Rattle.kola_base.specs.Named.{Named}
use Rattle.kola_base.specs.Placed.{Placed}
use Rattle.kola_base.specs.declared.sign.Sign.TheVariants as s
use Rattle.kola_parse.specs.Listed.{Listed}
use Rattle.kola_parse.specs.Reader.{Again, Final}
use Rattle.kola_parse.specs.Reading.{Good}
use Rattle.kola_parse.specs.Texts.{◌·◌, ends, Nothing, Led, OnRound, FewText, RoundsText}
use Rattle.kola_parse.proofs.GoodReaders.{good_as}
use Rattle.kola_parse.proofs.ReaderLaws.{nil_of}
use Rattle.oql_syntax.specs.Alphabet.{Kind, KSign, kind}
use Rattle.oql_syntax.specs.Grammar.{Text, ◌▸◌, PartedByCommas, Deeper, nowhere, FieldText, FullText, deeper_texts, QueryText}
use Rattle.oql_tree.specs.QueryTrees.{QueryTree}
use Rattle.oql_syntax.specs.QueryReaders.{named, FieldParts, FieldState, FieldRound, next_field, add_field, first_field, Closing, query}
use Rattle.oql_syntax.specs.Tails.{Tail, Plain, Compared, OpenPlain, OpenCompared, Ranged, Labelled}
use Rattle.oql_syntax.proofs.QuerySymbols.{Ahead}
use Rattle.oql_syntax.proofs.LevelLaws.{Inner, Full}
use Rattle.oql_syntax.proofs.WholeQueryLaws as read
use Rattle.oql_syntax.proofs.WholeQueryLaws.{NextLabel, FieldRest, LastRest, FieldEnd, Fields, texts, inner, always, SemicolonRest, Semicolon, Ending, QueryTextOf, query_good}
use Rattle.oql_syntax.proofs.Modes.{LabelTail, Extends, Extended, extended, Moded}
use Rattle.oql_syntax.proofs.ModeLaws.{moded_full, modes}
use Rattle.oql_syntax.proofs.Unlabelled.{is_labelled, Unlabelled, un_full, all_unlabelled}
use Rattle.oql_syntax.proofs.GrammarLaws.{Empty, Agree, sets_to, sets_from}
use Rattle.oql_syntax.proofs.GrammarNots.{not_to, not_from}
use Rattle.oql_syntax.proofs.GrammarSelects.{ranges_to, ranges_from, full_to, full_from}

-- ---- one field, and what stands behind it

same_tail : (x y : Tail) (u : List Placed) → is_labelled y ≡ false → Extends x y u → (x ≡ y) × (u ≡ [])
same_tail x y u e (inl h) = (h.0, nil_of u h.1)
same_tail x y u e (inr (b, l, i, j, h)) = absurd (let k = sym e ∙ ap is_labelled j in cc)

label_of : Tail → List ℕ × ℕ
label_of (Labelled x p) = (x, p)
label_of _ = ([], 0)

labels_same : (z : List ℕ) (p : ℕ) (x : Named) → Labelled z p ≡ Labelled x.name x.at → (fs : List FieldParts) → (let st : FieldState = (fs, z, p) in st ≡ (let nt : FieldState = (fs, x.name, x.at) in nt))
unfolding label_of
labels_same z p x e fs = ap (λ (y : Tail). (fs, (label_of y).0, (label_of y).1)) e

module _ (n : ℕ) (l : Inner) (B : Deeper) (to : (e : QueryTree) (x : Tail) (w : List Placed) → Full n false l (e, x) w → B.full e w) (from : (e : QueryTree) (w : List Placed) → B.full e w → (x : Tail) × Full n false l (e, x) w)
    (moded : Moded (Full n true l) (Full n false l)) (bare : Unlabelled (Full n false l)) where
  abbrev ReadRound : FieldState → FieldRound → Text
  ReadRound a r = read.FieldText (Full n true l) a r

  abbrev RoundIs : FieldState → FieldRound → Text
  RoundIs a (Final fs) w = (f : QueryTree) × (fs ≡ add_field a f) × (B.full f · KSign s.Close ▸ ends) w
  RoundIs a (Again st) w = (f : QueryTree) × (x : Named) × (st ≡ (let nt : FieldState = (add_field a f, x.name, x.at) in nt)) × (B.full f · LabelTail x) w

  -- the field is that of the grammar, where no label was taken with it
  plain_field : (f : QueryTree) (y : Tail) (u : List Placed) → is_labelled y ≡ false → Full n true l (f, y) u → B.full f u
  plain_field f y u e h =
      let one = moded.to f y u h in
      let same = same_tail one.tail y one.more e one.ext in
      subst (B.full f) (sym (one.split ∙ ap (λ (z : List Placed). one.text ++ z) same.1 ∙ append-nil one.text)) (to f one.tail one.text one.spells)

  closed_to : (a : FieldState) (f : QueryTree) (r : FieldRound) (w u v : List Placed) (t : Placed) → kind t ≡ KSign s.Close → w ≡ u ++ t ∷ v → B.full f u → Nothing (Final (add_field a f)) r v → RoundIs a r w
  closed_to a f r w u v t e i h g = subst (λ z. RoundIs a z w) (sym g.0) (f, refl, record { front = u; back = t ∷ v; split = i; first = h; second = (e, g.1) })

  comma_to : (a : FieldState) (f : QueryTree) (r : FieldRound) (w u v : List Placed) (t : Placed) → kind t ≡ KSign s.Comma → w ≡ u ++ t ∷ v → B.full f u → NextLabel (add_field a f) r v → RoundIs a r w
  comma_to a f r w u v t e i h g = by g.back g.split g.second
    where
      by : (z : List Placed) → v ≡ g.front ++ z → Ahead (KSign s.Colon) (Nothing (next_field (add_field a f) g.mid)) r z → RoundIs a r w
      by [] j k = absurd k
      by (c ∷ z) j k =
          subst (λ y. RoundIs a y w) (sym k.1.0) (f, g.mid, refl, record { front = u; back = t ∷ v; split = i; first = h; second = (e, record { front = g.front; back = c ∷ z; split = j; first = g.first; second = (k.0, k.1.1) }) })

  field_rest_to : (a : FieldState) (f : QueryTree) (r : FieldRound) (w u v : List Placed) (t : Placed) (k : Kind) → kind t ≡ k → w ≡ u ++ t ∷ v → B.full f u → FieldRest (add_field a f) k r v → RoundIs a r w
  field_rest_to a f r w u v t (KSign s.Close) e i h g = closed_to a f r w u v t e i h g
  field_rest_to a f r w u v t (KSign s.Comma) e i h g = comma_to a f r w u v t e i h g
  field_rest_to a f r w u v t _ e i h g = absurd g

  last_rest_to : (a : FieldState) (f : QueryTree) (r : FieldRound) (w u v : List Placed) (t : Placed) (k : Kind) → kind t ≡ k → w ≡ u ++ t ∷ v → B.full f u → LastRest (add_field a f) k r v → RoundIs a r w
  last_rest_to a f r w u v t (KSign s.Close) e i h g = closed_to a f r w u v t e i h g
  last_rest_to a f r w u v t _ e i h g = absurd g

  any_to : (a : FieldState) (f : QueryTree) (r : FieldRound) (w u v : List Placed) → w ≡ u ++ v → B.full f u → Led (λ t. FieldRest (add_field a f) (kind t)) r v → RoundIs a r w
  any_to a f r w u [] i h g = absurd g
  any_to a f r w u (t ∷ v) i h g = field_rest_to a f r w u v t (kind t) refl i h g

  labelled_to : (a : FieldState) (f : QueryTree) (r : FieldRound) (w u v : List Placed) (z : List ℕ) (p : ℕ) → w ≡ u ++ v → Extended (λ x. Full n false l (f, x)) (Labelled z p) u → Nothing (let r : FieldRound = Again (add_field a f, z, p) in r) r v → RoundIs a r w
  labelled_to a f r w u v z p i one g = by one.ext
    where
      whole : w ≡ u
      whole = i ∙ ap (λ (y : List Placed). u ++ y) (nil_of v g.1) ∙ append-nil u

      by : Extends one.tail (Labelled z p) one.more → RoundIs a r w
      by (inl h) = absurd (let e = sym (ap is_labelled h.0) ∙ bare.is f one.tail one.text one.spells in cc)
      by (inr (b, x, j, k, h)) = subst (λ y. RoundIs a y w) (sym g.0) (f, x, labels_same z p x k (add_field a f), record { front = one.text; back = one.more; split = whole ∙ one.split; first = to f one.tail one.text one.spells; second = h })

  round_to : (a : FieldState) (r : FieldRound) (w : List Placed) → ReadRound a r w → RoundIs a r w
  round_to a r w c = by c.mid.1 c.first c.second
    where
      by : (y : Tail) → Full n true l (c.mid.0, y) c.front → FieldEnd (add_field a c.mid.0) y r c.back → RoundIs a r w
      by (Labelled z p) h g = labelled_to a c.mid.0 r w c.front c.back z p c.split (moded.to c.mid.0 (Labelled z p) c.front h) g
      by (Ranged b) h g = last c.back c.split (plain_field c.mid.0 (Ranged b) c.front refl h) g
        where
          last : (v : List Placed) → w ≡ c.front ++ v → B.full c.mid.0 c.front → Led (λ t. LastRest (add_field a c.mid.0) (kind t)) r v → RoundIs a r w
          last [] i h g = absurd g
          last (t ∷ v) i h g = last_rest_to a c.mid.0 r w c.front v t (kind t) refl i h g
      by Plain h g = any_to a c.mid.0 r w c.front c.back c.split (plain_field c.mid.0 Plain c.front refl h) g
      by Compared h g = any_to a c.mid.0 r w c.front c.back c.split (plain_field c.mid.0 Compared c.front refl h) g
      by OpenPlain h g = any_to a c.mid.0 r w c.front c.back c.split (plain_field c.mid.0 OpenPlain c.front refl h) g
      by OpenCompared h g = any_to a c.mid.0 r w c.front c.back c.split (plain_field c.mid.0 OpenCompared c.front refl h) g

  -- ---- and from the grammar

  close_end : (fs : List FieldParts) (x : Tail) (v : List Placed) → is_labelled x ≡ false → (KSign s.Close ▸ ends) v → FieldEnd fs x (Final fs) v
  close_end fs x [] e h = absurd h
  close_end fs (Labelled z p) (t ∷ v) e h = absurd cc
  close_end fs (Ranged b) (t ∷ v) e h = subst (λ k. LastRest fs k (Final fs) v) (sym h.0) (refl, h.1)
  close_end fs Plain (t ∷ v) e h = subst (λ k. FieldRest fs k (Final fs) v) (sym h.0) (refl, h.1)
  close_end fs Compared (t ∷ v) e h = subst (λ k. FieldRest fs k (Final fs) v) (sym h.0) (refl, h.1)
  close_end fs OpenPlain (t ∷ v) e h = subst (λ k. FieldRest fs k (Final fs) v) (sym h.0) (refl, h.1)
  close_end fs OpenCompared (t ∷ v) e h = subst (λ k. FieldRest fs k (Final fs) v) (sym h.0) (refl, h.1)

  colon_end : (r : FieldRound) (v : List Placed) → (KSign s.Colon ▸ ends) v → Ahead (KSign s.Colon) (Nothing r) r v
  colon_end r [] h = h
  colon_end r (t ∷ v) h = (h.0, (refl, h.1))

  comma_end : (fs : List FieldParts) (x : Named) (v : List Placed) → LabelTail x v → Led (λ t. FieldRest fs (kind t)) (next_field fs x) v
  comma_end fs x [] h = absurd h
  comma_end fs x (t ∷ v) h =
      subst (λ k. FieldRest fs k (next_field fs x) v) (sym h.0) (record { mid = x; front = h.1.front; back = h.1.back; split = h.1.split; first = h.1.first; second = colon_end (next_field fs x) h.1.back h.1.second })

  round_final : (a : FieldState) (f : QueryTree) (w : List Placed) → (B.full f · KSign s.Close ▸ ends) w → ReadRound a (Final (add_field a f)) w
  round_final a f w h =
      let g = from f h.front h.first in
      record {
        mid = (f, g.0);
        front = h.front;
        back = h.back;
        split = h.split;
        first = moded.from f g.0 h.front (extended (λ x. Full n false l (f, x)) g.0 h.front g.1);
        second = close_end (add_field a f) g.0 h.back (bare.is f g.0 h.front g.1) h.second;
      }

  round_again : (a : FieldState) (f : QueryTree) (x : Named) (w : List Placed) → (B.full f · LabelTail x) w → ReadRound a (next_field (add_field a f) x) w
  round_again a f x w h = by (from f h.front h.first).0 (from f h.front h.first).1
    where
      open_end : (y : Tail) → Full n false l (f, y) h.front → FieldEnd (add_field a f) y (next_field (add_field a f) x) h.back → ReadRound a (next_field (add_field a f) x) w
      open_end y g e =
          record { mid = (f, y); front = h.front; back = h.back; split = h.split; first = moded.from f y h.front (extended (λ x. Full n false l (f, x)) y h.front g); second = e }

      by : (y : Tail) → Full n false l (f, y) h.front → ReadRound a (next_field (add_field a f) x) w
      by (Labelled z p) g = absurd (let e = bare.is f (Labelled z p) h.front g in cc)
      by (Ranged b) g =
          record {
            mid = (f, Labelled x.name x.at);
            front = w;
            back = [];
            split = sym (append-nil w);
            first = moded.from f (Labelled x.name x.at) w (record { tail = Ranged b; text = h.front; more = h.back; split = h.split; ext = inr (b, x, refl, refl, h.second); spells = g });
            second = (refl, tt);
          }
      by Plain g = open_end Plain g (comma_end (add_field a f) x h.back h.second)
      by Compared g = open_end Compared g (comma_end (add_field a f) x h.back h.second)
      by OpenPlain g = open_end OpenPlain g (comma_end (add_field a f) x h.back h.second)
      by OpenCompared g = open_end OpenCompared g (comma_end (add_field a f) x h.back h.second)

  -- ---- rounds

  abbrev CommaField : List ℕ × ℕ × QueryTree → Text
  CommaField f = KSign s.Comma ▸ FieldText B f

  abbrev CloseText : Text
  CloseText = KSign s.Close ▸ ends

  colon_join : (f : QueryTree) (v u : List Placed) → (KSign s.Colon ▸ ends) v → B.full f u → (KSign s.Colon ▸ B.full f) (v ++ u)
  colon_join f [] u h g = absurd h
  colon_join f (t ∷ v) u h g = (h.0, subst (λ (z : List Placed). B.full f (z ++ u)) (sym (nil_of v h.1)) g)

  item_join : (x : Named) (f : QueryTree) (v u : List Placed) → LabelTail x v → B.full f u → CommaField (x.name, x.at, f) (v ++ u)
  item_join x f [] u h g = absurd h
  item_join x f (t ∷ v) u h g =
      (h.0, record { front = h.1.front; back = h.1.back ++ u; split = ap (λ (z : List Placed). z ++ u) h.1.split ∙ append_assoc h.1.front h.1.back u; first = h.1.first; second = colon_join f h.1.back u h.1.second g })

  item_split : (f : List ℕ × ℕ × QueryTree) (w : List Placed) → CommaField f w → (LabelTail (named f.0 f.1) · B.full f.2) w
  item_split f [] h = absurd h
  item_split f (t ∷ w) h = by h.1.back h.1.split h.1.second
    where
      by : (v : List Placed) → w ≡ h.1.front ++ v → (KSign s.Colon ▸ B.full f.2) v → (LabelTail (named f.0 f.1) · B.full f.2) (t ∷ w)
      by [] i g = absurd g
      by (c ∷ v) i g =
          record {
            front = t ∷ (h.1.front ++ c ∷ []);
            back = v;
            split = ap (λ (z : List Placed). t ∷ z) (i ∙ sym (append_assoc h.1.front (c ∷ []) v));
            first = (h.0, record { front = h.1.front; back = c ∷ []; split = refl; first = h.1.first; second = (g.0, tt) });
            second = g.1;
          }

  -- a field, and those behind it
  record ReadFields (a : FieldState) (fs : List FieldParts) (w : List Placed) : Type 0 where
    one : QueryTree
    others : List FieldParts
    is : fs ≡ a.0 ++ (a.1, a.2, one) ∷ others
    spells : (B.full one · Listed CommaField CloseText others) w

  few_to : (k : ℕ) (a : FieldState) (fs : List FieldParts) (w : List Placed) → FewText (read.FieldText (Full n true l)) k a (Final fs) w → ReadFields a fs w
  few_to zero a fs w h = let g = round_to a (Final fs) w h in record { one = g.0; others = []; is = g.1; spells = g.2 }
  few_to (suc k) a fs w c = by (λ st v h. few_to k st fs v h) c.mid c.second (round_to a c.mid c.front c.first)
    where
      same_final : (gs hs : List FieldParts) → (let x : FieldRound = Final gs in x ≡ Final hs) → gs ≡ hs
      same_final gs hs e = cc

      by : ((st : FieldState) (v : List Placed) → FewText (read.FieldText (Full n true l)) k st (Final fs) v → ReadFields st fs v) → (r : FieldRound) → OnRound (FewText (read.FieldText (Full n true l)) k) r (Final fs) c.back → RoundIs a r c.front → ReadFields a fs w
      by go (Final gs) h g =
          let whole : w ≡ c.front = c.split ∙ ap (λ (z : List Placed). c.front ++ z) (nil_of c.back h.1) ∙ append-nil c.front in
          record { one = g.0; others = []; is = same_final fs gs h.0 ∙ g.1; spells = subst (B.full g.0 · CloseText) (sym whole) g.2 }
      by go (Again st) h (f, x, i, g) =
          let d = go (add_field a f, x.name, x.at) c.back (subst (λ (z : FieldState). FewText (read.FieldText (Full n true l)) k z (Final fs) c.back) i h) in
          record {
            one = f;
            others = (x.name, x.at, d.one) ∷ d.others;
            is = d.is ∙ append_assoc a.0 ((a.1, a.2, f) ∷ []) ((x.name, x.at, d.one) ∷ d.others);
            spells = record {
              front = g.front;
              back = g.back ++ c.back;
              split = c.split ∙ ap (λ (z : List Placed). z ++ c.back) g.split ∙ append_assoc g.front g.back c.back;
              first = g.first;
              second = record {
                front = g.back ++ d.spells.front;
                back = d.spells.back;
                split = ap (λ (z : List Placed). g.back ++ z) d.spells.split ∙ sym (append_assoc g.back d.spells.front d.spells.back);
                first = item_join x d.one g.back d.spells.front g.second d.spells.first;
                second = d.spells.second;
              };
            };
          }

  few_from : (gs : List FieldParts) (a : FieldState) (f : QueryTree) (w : List Placed) → (B.full f · Listed CommaField CloseText gs) w → (k : ℕ) × FewText (read.FieldText (Full n true l)) k a (Final (a.0 ++ (a.1, a.2, f) ∷ gs)) w
  few_from [] a f w h = (0, round_final a f w h)
  few_from (x ∷ gs) a f w h =
      let item = h.second in
      let i = item_split x item.front item.first in
      let d = few_from gs (add_field a f, x.0, x.1) x.2 (i.back ++ item.back) (record { front = i.back; back = item.back; split = refl; first = i.second; second = item.second }) in (
        suc d.0,
        record {
          mid = next_field (add_field a f) (named x.0 x.1);
          front = h.front ++ i.front;
          back = i.back ++ item.back;
          split =
              h.split
              ∙ ap (λ (z : List Placed). h.front ++ z) (item.split ∙ ap (λ (z : List Placed). z ++ item.back) i.split ∙ append_assoc i.front i.back item.back)
              ∙ sym (append_assoc h.front i.front (i.back ++ item.back));
          first = round_again a f (named x.0 x.1) (h.front ++ i.front) (record { front = h.front; back = i.front; split = refl; first = h.first; second = i.first });
          second = subst (λ (z : List FieldParts). FewText (read.FieldText (Full n true l)) d.0 (add_field a f, x.0, x.1) (Final z) (i.back ++ item.back)) (append_assoc a.0 ((a.1, a.2, f) ∷ []) (x ∷ gs)) d.1;
        },
      )

  pub fields_to : (fs : List FieldParts) (w : List Placed) → Fields n l fs w → PartedByCommas (FieldText B) CloseText fs w
  fields_to fs w c = by c.back c.split c.second
    where
      by : (v : List Placed) → w ≡ c.front ++ v → Ahead (KSign s.Colon) (RoundsText (read.FieldText (Full n true l)) (first_field c.mid)) fs v → PartedByCommas (FieldText B) CloseText fs w
      by [] i g = absurd g
      by (t ∷ v) i g =
          let d = few_to g.1.0 (first_field c.mid) fs v g.1.1 in
          subst (λ (z : List FieldParts). PartedByCommas (FieldText B) CloseText z w) (sym d.is)
          (record {
            front = c.front ++ t ∷ d.spells.front;
            back = d.spells.back;
            split = i ∙ ap (λ (z : List Placed). c.front ++ t ∷ z) d.spells.split ∙ sym (append_assoc c.front (t ∷ d.spells.front) d.spells.back);
            first = record { front = c.front; back = t ∷ d.spells.front; split = refl; first = c.first; second = (g.0, d.spells.first) };
            second = d.spells.second;
          })

  pub fields_from : (fs : List FieldParts) (w : List Placed) → PartedByCommas (FieldText B) CloseText fs w → Fields n l fs w
  fields_from [] w h = absurd h
  fields_from (x ∷ gs) w h = by h.first.back h.first.split h.first.second
    where
      by : (v : List Placed) → h.front ≡ h.first.front ++ v → (KSign s.Colon ▸ B.full x.2) v → Fields n l (x ∷ gs) w
      by [] i g = absurd g
      by (t ∷ v) i g =
          let d = few_from gs (first_field (named x.0 x.1)) x.2 (v ++ h.back) (record { front = v; back = h.back; split = refl; first = g.1; second = h.second }) in
          record {
            mid = named x.0 x.1;
            front = h.first.front;
            back = t ∷ (v ++ h.back);
            split = h.split ∙ ap (λ (z : List Placed). z ++ h.back) i ∙ append_assoc h.first.front (t ∷ v) h.back;
            first = h.first.first;
            second = (g.0, (d.0, d.1));
          }

-- ---- all levels

nowhere_empty : Empty nowhere
nowhere_empty = record { sets = λ e w h. h; negation = λ b e w h. h; full = λ e w h. h }

pub agree : (n d : ℕ) → Agree (inner n d) (deeper_texts n d)
agree n zero = nowhere_empty
agree n (suc d) =
    let l = inner n d in
    let B = deeper_texts n d in
    let below = agree n d in
    let up = deeper_texts n (suc d) in
    let m = moded_full n l (modes n d) in
    let u = un_full n l (all_unlabelled n d) in
    record {
      sets_to = sets_to n l B below;
      sets_from = sets_from n l B below;
      not_to = not_to n l B below;
      not_from = not_from n l B below;
      full_to = full_to n l B below;
      full_from = full_from n l B below;
      ranges_to = ranges_to n l up (sets_to n l B below) (sets_from n l B below);
      ranges_from = ranges_from n l up (sets_to n l B below) (sets_from n l B below);
      fields_to = fields_to n l up (full_to n l B below) (full_from n l B below) m u;
      fields_from = fields_from n l up (full_to n l B below) (full_from n l B below) m u;
    }

-- ---- whole queries

abbrev LastSign : Text
LastSign w = ends w ⊎ (KSign s.Semicolon ▸ ends) w

sign_to : (e : QueryTree) (y : Closing) (t : Placed) (w : List Placed) (k : Kind) → kind t ≡ k → SemicolonRest e k y w → (y.0 ≡ e) × (KSign s.Semicolon ▸ ends) (t ∷ w)
sign_to e y t w (KSign s.Semicolon) i h = (ap (λ (z : Closing). z.0) h.0, (i, h.1))
sign_to e y t w _ i h = absurd h

semicolon_to : (e : QueryTree) (y : Closing) (w : List Placed) → Semicolon e y w → (y.0 ≡ e) × LastSign w
semicolon_to e y [] h = (ap (λ (z : Closing). z.0) h, inl tt)
semicolon_to e y (t ∷ w) h = let g = sign_to e y t w (kind t) refl h in (g.0, inr g.1)

ending_to : (e x : QueryTree) (w : List Placed) → Ending e x w → (x ≡ e) × LastSign w
ending_to e x w c =
    let g = semicolon_to e c.mid c.front c.first in
    (c.second.0 ∙ g.0, subst LastSign (sym (c.split ∙ ap (λ (z : List Placed). c.front ++ z) (nil_of c.back c.second.1) ∙ append-nil c.front)) g.1)

ending_from : (e : QueryTree) (w : List Placed) → LastSign w → Ending e e w
ending_from e [] h = record { mid = (e, false); front = []; back = []; split = refl; first = refl; second = (refl, tt) }
ending_from e (t ∷ w) (inl h) = absurd h
ending_from e (t ∷ w) (inr h) = record { mid = (e, true); front = t ∷ w; back = []; split = sym (append-nil (t ∷ w)); first = subst (λ k. SemicolonRest e k (e, true) w) (sym h.0) (refl, h.1); second = (refl, tt) }

query_to : (n d : ℕ) (x : QueryTree) (w : List Placed) → QueryTextOf n d x w → QueryText n d x w
query_to n d x w c =
    let g = ending_to c.mid.0 x c.back c.second in
    record { front = c.front; back = c.back; split = c.split; first = subst (λ y. FullText n (deeper_texts n d) y c.front) (sym g.0) (full_to n (inner n d) (deeper_texts n d) (agree n d) c.mid.0 c.mid.1 c.front c.first); second = g.1 }

query_from : (n d : ℕ) (x : QueryTree) (w : List Placed) → QueryText n d x w → QueryTextOf n d x w
query_from n d x w h =
    let g = full_from n (inner n d) (deeper_texts n d) (agree n d) x h.front h.first in
    record { mid = (x, g.0); front = h.front; back = h.back; split = h.split; first = g.1; second = ending_from x h.back h.second }

-- the reader of queries reads what the grammar says, and with one more link and level what it says then
pub grammar_good : (n d : ℕ) → Good (Unit {0}) (query n d) (query (suc n) (suc d)) (QueryText n d) (QueryText (suc n) (suc d)) always
grammar_good n d = good_as (query_to n d) (query_from n d) (query_to (suc n) (suc d)) (query_from (suc n) (suc d)) (query_good n d)

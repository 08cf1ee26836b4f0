-- A field of a struct that ends in ranges may take the next label with it: what is spelled there is what is spelled elsewhere, and such a label.
use Rattle.std.proofs.Common.{◌≡◌, ◌⊎◌, inl, inr, ℕ, zero, suc, Bool, false, List, [], ◌∷◌, ◌++◌, append_assoc, refl, sym, ap, subst, ◌∙◌}
use Rattle.std.proofs.lemmas.List.{append-nil}
use Rattle.kola_base.specs.Named.{Named, NameText}
use Rattle.kola_base.specs.Placed.{Placed}
use Rattle.kola_base.specs.declared.sign.Sign.TheVariants as s
use Rattle.kola_parse.specs.Kinds.{Lang, leads}
use Rattle.kola_parse.specs.Texts.{◌·◌, ends, Chained, Made, Led, ChainText}
use Rattle.kola_parse.proofs.ReaderLaws.{nil_of}
use Rattle.oql_syntax.specs.Alphabet.{Kind, KSign, kind}
use Rattle.oql_syntax.specs.Grammar.{Text, ◌▸◌}
use Rattle.oql_tree.specs.QueryTrees.{QueryTree, QueryLinks}
use Rattle.oql_syntax.specs.QueryReaders.{Tailed, OperandsTailed, first_operand, more_operands, joined}
use Rattle.oql_syntax.specs.Tails.{Tail, Plain, Compared, OpenPlain, OpenCompared, Ranged, Labelled, opened}
use Rattle.oql_syntax.specs.declared.word.QueryWord.{QueryWord}
use Rattle.oql_syntax.proofs.QuerySymbols.{no_text}
use Rattle.oql_syntax.proofs.LinkedTexts.{is_open, OpenLinkTo, OpenLinkFrom}

-- a comma, the label, and its colon
abbrev pub LabelTail : Named → Text
LabelTail l = KSign s.Comma ▸ (NameText l · KSign s.Colon ▸ ends)

-- the tail y comes of x by these tokens: none, or a label behind ranges
abbrev pub Extends : Tail → Tail → Text
Extends x y u = ((x ≡ y) × ends u) ⊎ ((b : Bool) × (l : Named) × (x ≡ Ranged b) × (y ≡ Labelled l.name l.at) × LabelTail l u)

-- a text of P, and what extends its tail
pub record Extended (P : Tail → Text) (y : Tail) (w : List Placed) : Type 0 where
  pub tail : Tail
  pub text : List Placed
  pub more : List Placed
  pub split : w ≡ text ++ more
  pub ext : Extends tail y more
  pub spells : P tail text

pub extended : (P : Tail → Text) (y : Tail) (w : List Placed) → P y w → Extended P y w
extended P y w h = record { tail = y; text = w; more = []; split = sym (append-nil w); ext = inl (refl, tt); spells = h }

-- what N spells is what M spells, extended
pub record Moded {A : Type 0} (N M : Lang Placed (A × Tail)) : Type 0 where
  pub to : (a : A) (y : Tail) (w : List Placed) → N (a, y) w → Extended (λ x. M (a, x)) y w
  pub from : (a : A) (y : Tail) (w : List Placed) → Extended (λ x. M (a, x)) y w → N (a, y) w

-- ---- tails

ext_opened : (x y : Tail) (u : List Placed) → Extends x y u → Extends (opened x) (opened y) u
ext_opened x y u (inl h) = inl (ap opened h.0, h.1)
ext_opened x y u (inr (b, l, e, i, h)) = inr (b, l, ap opened e, ap opened i, h)

ranged_opened : (v : Tail) (b : Bool) → opened v ≡ Ranged b → v ≡ Ranged b
ranged_opened Plain b e = absurd cc
ranged_opened Compared b e = absurd cc
ranged_opened OpenPlain b e = e
ranged_opened OpenCompared b e = e
ranged_opened (Ranged c) b e = e
ranged_opened (Labelled x p) b e = e

ext_back : (v x y : Tail) (u : List Placed) → x ≡ opened v → Extends x y u → (z : Tail) × (y ≡ opened z) × Extends v z u
ext_back v x y u e (inl h) = (v, sym h.0 ∙ e, inl (refl, h.1))
ext_back v x y u e (inr (b, l, i, j, h)) = (y, j ∙ ap opened (sym j), inr (b, l, ranged_opened v b (sym e ∙ i), j, h))

-- a closed tail is not extended
pub closed_same : (x y : Tail) (u : List Placed) → is_open y ≡ false → Extends x y u → (x ≡ y) × (u ≡ [])
closed_same x y u e (inl h) = (h.0, nil_of u h.1)
closed_same x y u e (inr (b, l, i, j, h)) = absurd (let k = sym e ∙ ap is_open j in cc)

pub closed_stays : (x y : Tail) (u : List Placed) → is_open x ≡ false → Extends x y u → (x ≡ y) × (u ≡ [])
closed_stays x y u e (inl h) = (h.0, nil_of u h.1)
closed_stays x y u e (inr (b, l, i, j, h)) = absurd (let k = sym e ∙ ap is_open i in cc)

-- ---- parts of texts

pub moded_none : {A : Type 0} → Moded {A = A} no_text no_text
moded_none = record { to = λ a y w h. absurd h; from = λ a y w h. absurd h.spells }

pub moded_closed : {A : Type 0} (M : Lang Placed (A × Tail)) → ((a : A) (x : Tail) (w : List Placed) → M (a, x) w → is_open x ≡ false) → Moded M M
moded_closed {A} M closed = record { to = λ a y w h. extended (λ x. M (a, x)) y w h; from = from }
  where
    from : (a : A) (y : Tail) (w : List Placed) → Extended (λ x. M (a, x)) y w → M (a, y) w
    from a y w h =
        let e = closed_stays h.tail y h.more (closed a h.tail h.text h.spells) h.ext in
        subst (M (a, y)) (sym (h.split ∙ ap (λ (z : List Placed). h.text ++ z) e.1 ∙ append-nil h.text)) (subst (λ z. M (a, z) h.text) e.0 h.spells)

pub moded_led : {A : Type 0} (N M : Placed → Lang Placed (A × Tail)) → ((t : Placed) → Moded (N t) (M t)) → Moded (Led N) (Led M)
moded_led {A} N M h = record { to = to; from = λ a y w g. from_at a y w g.text g.more g.split g.tail g.ext g.spells }
  where
    to : (a : A) (y : Tail) (w : List Placed) → Led N (a, y) w → Extended (λ x. Led M (a, x)) y w
    to a y [] g = absurd g
    to a y (t ∷ w) g = let e = (h t).to a y w g in record { tail = e.tail; text = t ∷ e.text; more = e.more; split = ap (λ (z : List Placed). t ∷ z) e.split; ext = e.ext; spells = e.spells }

    from_at : (a : A) (y : Tail) (w u : List Placed) → (more : List Placed) → w ≡ u ++ more → (x : Tail) → Extends x y more → Led M (a, x) u → Led N (a, y) w
    from_at a y w [] more e x i g = absurd g
    from_at a y w (t ∷ u) more e x i g = subst (Led N (a, y)) (sym e) ((h t).from a y (u ++ more) (record { tail = x; text = u; more = more; split = refl; ext = i; spells = g }))

pub moded_ahead : {A : Type 0} (Q : Placed → Type 0) (N M : Lang Placed (A × Tail)) → Moded N M → Moded (λ v. leads Q (N v)) (λ v. leads Q (M v))
moded_ahead {A} Q N M h = record { to = to; from = λ a y w g. from_at a y w g.text g.more g.split g.tail g.ext g.spells }
  where
    to : (a : A) (y : Tail) (w : List Placed) → leads Q (N (a, y)) w → Extended (λ x. leads Q (M (a, x))) y w
    to a y [] g = absurd g
    to a y (t ∷ w) g = let e = h.to a y w g.1 in record { tail = e.tail; text = t ∷ e.text; more = e.more; split = ap (λ (z : List Placed). t ∷ z) e.split; ext = e.ext; spells = (g.0, e.spells) }

    from_at : (a : A) (y : Tail) (w u : List Placed) → (more : List Placed) → w ≡ u ++ more → (x : Tail) → Extends x y more → leads Q (M (a, x)) u → leads Q (N (a, y)) w
    from_at a y w [] more e x i g = absurd g
    from_at a y w (t ∷ u) more e x i g = subst (leads Q (N (a, y))) (sym e) (g.0, h.from a y (u ++ more) (record { tail = x; text = u; more = more; split = refl; ext = i; spells = g.1 }))

pub moded_chained : {A B : Type 0} (L : Lang Placed A) (N M : A → Lang Placed (B × Tail)) → ((a : A) → Moded (N a) (M a)) → Moded (Chained L N) (Chained L M)
moded_chained {A} {B} L N M h = record { to = to; from = from }
  where
    to : (b : B) (y : Tail) (w : List Placed) → Chained L N (b, y) w → Extended (λ x. Chained L M (b, x)) y w
    to b y w c =
        let e = (h c.mid).to b y c.back c.second in
        record {
          tail = e.tail;
          text = c.front ++ e.text;
          more = e.more;
          split = c.split ∙ ap (λ (z : List Placed). c.front ++ z) e.split ∙ sym (append_assoc c.front e.text e.more);
          ext = e.ext;
          spells = record { mid = c.mid; front = c.front; back = e.text; split = refl; first = c.first; second = e.spells };
        }

    from : (b : B) (y : Tail) (w : List Placed) → Extended (λ x. Chained L M (b, x)) y w → Chained L N (b, y) w
    from b y w e =
        let c = e.spells in
        record {
          mid = c.mid;
          front = c.front;
          back = c.back ++ e.more;
          split = e.split ∙ ap (λ (z : List Placed). z ++ e.more) c.split ∙ append_assoc c.front c.back e.more;
          first = c.first;
          second = (h c.mid).from b y (c.back ++ e.more) (record { tail = e.tail; text = c.back; more = e.more; split = refl; ext = e.ext; spells = c.second });
        }

-- what is made of a value, whose tail stays, or is opened
abbrev pub kept : {A B : Type 0} → (A → B) → A × Tail → B × Tail
kept f v = (f v.0, v.1)

abbrev pub opening : {A B : Type 0} → (A → B) → A × Tail → B × Tail
opening f v = (f v.0, opened v.1)

pub moded_made : {A B : Type 0} (f : A → B) (N M : Lang Placed (A × Tail)) → Moded N M → Moded (Made (kept f) N) (Made (kept f) M)
moded_made {A} {B} f N M h = record { to = to; from = from }
  where
    to : (b : B) (y : Tail) (w : List Placed) → Made (kept f) N (b, y) w → Extended (λ x. Made (kept f) M (b, x)) y w
    to b y w m =
        let e = h.to m.part.0 m.part.1 w m.spells in
        let is : b ≡ f m.part.0 = ap (λ (z : B × Tail). z.0) m.is in
        record { tail = e.tail; text = e.text; more = e.more; split = e.split; ext = subst (λ z. Extends e.tail z e.more) (sym (ap (λ (z : B × Tail). z.1) m.is)) e.ext; spells = record { part = (m.part.0, e.tail); is = ap (λ (z : B). (z, e.tail)) is; spells = e.spells } }

    from : (b : B) (y : Tail) (w : List Placed) → Extended (λ x. Made (kept f) M (b, x)) y w → Made (kept f) N (b, y) w
    from b y w e =
        let m = e.spells in
        record {
          part = (m.part.0, y);
          is = ap (λ (z : B × Tail). (z.0, y)) m.is;
          spells = h.from m.part.0 y w (record { tail = m.part.1; text = e.text; more = e.more; split = e.split; ext = subst (λ z. Extends z y e.more) (ap (λ (z : B × Tail). z.1) m.is) e.ext; spells = m.spells });
        }

pub moded_opened : {A B : Type 0} (f : A → B) (N M : Lang Placed (A × Tail)) → Moded N M → Moded (Made (opening f) N) (Made (opening f) M)
moded_opened {A} {B} f N M h = record { to = to; from = from }
  where
    to : (b : B) (y : Tail) (w : List Placed) → Made (opening f) N (b, y) w → Extended (λ x. Made (opening f) M (b, x)) y w
    to b y w m =
        let e = h.to m.part.0 m.part.1 w m.spells in
        let is : b ≡ f m.part.0 = ap (λ (z : B × Tail). z.0) m.is in
        record {
          tail = opened e.tail;
          text = e.text;
          more = e.more;
          split = e.split;
          ext = subst (λ z. Extends (opened e.tail) z e.more) (sym (ap (λ (z : B × Tail). z.1) m.is)) (ext_opened e.tail m.part.1 e.more e.ext);
          spells = record { part = (m.part.0, e.tail); is = ap (λ (z : B). (z, opened e.tail)) is; spells = e.spells };
        }

    from : (b : B) (y : Tail) (w : List Placed) → Extended (λ x. Made (opening f) M (b, x)) y w → Made (opening f) N (b, y) w
    from b y w e =
        let m = e.spells in
        let z = ext_back m.part.1 e.tail y e.more (ap (λ (z : B × Tail). z.1) m.is) e.ext in
        let is : b ≡ f m.part.0 = ap (λ (z : B × Tail). z.0) m.is in
        record {
          part = (m.part.0, z.0);
          is = ap (λ (c : B). (c, y)) is ∙ ap (λ (t : Tail). (f m.part.0, t)) z.1;
          spells = h.from m.part.0 z.0 w (record { tail = m.part.1; text = e.text; more = e.more; split = e.split; ext = z.2; spells = m.spells });
        }

-- ---- chains

abbrev with_tail : OperandsTailed → Tail → OperandsTailed
with_tail y x = (y.0, y.1, x)

module _ (word : QueryWord) (Links : Lang Placed Tailed → Tail → ℕ → Kind → Lang Placed (ℕ × QueryTree × Tail)) (out : (L : Lang Placed Tailed) → OpenLinkTo word L (Links L)) (into : (L : Lang Placed Tailed) → OpenLinkFrom word L (Links L))
    (N M : Lang Placed Tailed) (moded : Moded N M) where
  abbrev Chain : Lang Placed Tailed → ℕ → OperandsTailed → OperandsTailed → List Placed → Type 0
  Chain L n a y w = ChainText (λ (x : OperandsTailed) t. Links L x.2 t.at (kind t)) more_operands n a y w

  -- a chain behind a tail that was extended by u
  record Shorter (n : ℕ) (e : QueryTree) (ls : List (ℕ × QueryTree)) (x : Tail) (y : OperandsTailed) (w : List Placed) : Type 0 where
    tail : Tail
    text : List Placed
    more : List Placed
    split : w ≡ text ++ more
    ext : Extends tail y.2 more
    spells : Chain M n (e, ls, x) (y.0, y.1, tail) text

  stop_short : (n : ℕ) (e : QueryTree) (ls : List (ℕ × QueryTree)) (x x' : Tail) (y : OperandsTailed) (u : List Placed) → ((z : OperandsTailed) → z ≡ (e, ls, x) → Chain M n (e, ls, x) z []) → Extends x x' u → y ≡ (e, ls, x') → Shorter n e ls x y (u ++ [])
  stop_short n e ls x x' y u stop i h =
      record {
        tail = x;
        text = [];
        more = u;
        split = append-nil u;
        ext = subst (λ z. Extends x z u) (sym (ap (λ (z : OperandsTailed). z.2) h)) i;
        spells = stop (y.0, y.1, x) (ap (λ (z : OperandsTailed). (z.0, z.1, x)) h);
      }

  chain_to : (n : ℕ) (e : QueryTree) (ls : List (ℕ × QueryTree)) (x x' : Tail) (y : OperandsTailed) (u w : List Placed) → Extends x x' u → Chain N n (e, ls, x') y w → Shorter n e ls x y (u ++ w)
  chain_to zero e ls x x' y u [] i h = stop_short zero e ls x x' y u (λ z f. f) i h
  chain_to zero e ls x x' y u (t ∷ w) i h = absurd h
  chain_to (suc n) e ls x x' y u [] i h = stop_short (suc n) e ls x x' y u (λ z f. f) i h
  chain_to (suc n) e ls x x' y u (t ∷ w) i h =
      let g = out N x' t.at (kind t) h.mid h.front h.first in
      let same = closed_same x x' u g.1 i in
      let one = moded.to h.mid.1 h.mid.2 h.front g.3 in
      let r = chain_to n e (ls ++ (h.mid.0, h.mid.1) ∷ []) one.tail h.mid.2 y one.more h.back one.ext h.second in
      let link = subst (λ (p : ℕ). Links M x t.at (kind t) (p, h.mid.1, one.tail) one.text) (sym g.2) (subst (λ k. Links M x t.at k (t.at, h.mid.1, one.tail) one.text) (sym g.0) (into M x t.at h.mid.1 one.tail one.text (ap is_open same.0 ∙ g.1) one.spells)) in
      record {
        tail = r.tail;
        text = t ∷ (one.text ++ r.text);
        more = r.more;
        split = ap (λ (z : List Placed). z ++ t ∷ w) same.1 ∙ ap (λ (z : List Placed). t ∷ z) (h.split ∙ ap (λ (z : List Placed). z ++ h.back) one.split ∙ append_assoc one.text one.more h.back ∙ ap (λ (z : List Placed). one.text ++ z) r.split ∙ sym (append_assoc one.text r.text r.more));
        ext = r.ext;
        spells = record { mid = (h.mid.0, h.mid.1, one.tail); front = one.text; back = r.text; split = refl; first = link; second = r.spells };
      }

  -- a chain whose last tail is extended, behind a tail that may be
  record Longer (n : ℕ) (e : QueryTree) (ls : List (ℕ × QueryTree)) (x : Tail) (y : OperandsTailed) (w : List Placed) : Type 0 where
    tail : Tail
    more : List Placed
    text : List Placed
    split : w ≡ more ++ text
    ext : Extends x tail more
    spells : Chain N n (e, ls, tail) y text

  stop_long : (n : ℕ) (e : QueryTree) (ls : List (ℕ × QueryTree)) (x x' : Tail) (y : OperandsTailed) (u : List Placed) → ((z : OperandsTailed) → z ≡ (e, ls, y.2) → Chain N n (e, ls, y.2) z []) → Extends x' y.2 u → with_tail y x' ≡ (e, ls, x) → Longer n e ls x y u
  stop_long n e ls x x' y u stop i h =
      record {
        tail = y.2;
        more = u;
        text = [];
        split = sym (append-nil u);
        ext = subst (λ z. Extends z y.2 u) (ap (λ (z : OperandsTailed). z.2) h) i;
        spells = stop y (ap (λ (z : OperandsTailed). (z.0, z.1, y.2)) h);
      }

  chain_from : (n : ℕ) (e : QueryTree) (ls : List (ℕ × QueryTree)) (x x' : Tail) (y : OperandsTailed) (w u : List Placed) → Extends x' y.2 u → Chain M n (e, ls, x) (y.0, y.1, x') w → Longer n e ls x y (w ++ u)
  chain_from zero e ls x x' y [] u i h = stop_long zero e ls x x' y u (λ z f. f) i h
  chain_from zero e ls x x' y (t ∷ w) u i h = absurd h
  chain_from (suc n) e ls x x' y [] u i h = stop_long (suc n) e ls x x' y u (λ z f. f) i h
  chain_from (suc n) e ls x x' y (t ∷ w) u i h =
      let g = out M x t.at (kind t) h.mid h.front h.first in
      let r = chain_from n e (ls ++ (h.mid.0, h.mid.1) ∷ []) h.mid.2 x' y h.back u i h.second in
      let one = moded.from h.mid.1 r.tail (h.front ++ r.more) (record { tail = h.mid.2; text = h.front; more = r.more; split = refl; ext = r.ext; spells = g.3 }) in
      let link = subst (λ (p : ℕ). Links N x t.at (kind t) (p, h.mid.1, r.tail) (h.front ++ r.more)) (sym g.2) (subst (λ k. Links N x t.at k (t.at, h.mid.1, r.tail) (h.front ++ r.more)) (sym g.0) (into N x t.at h.mid.1 r.tail (h.front ++ r.more) g.1 one)) in
      record {
        tail = x;
        more = [];
        text = t ∷ ((h.front ++ r.more) ++ r.text);
        split = ap (λ (z : List Placed). t ∷ z) (ap (λ (z : List Placed). z ++ u) h.split ∙ append_assoc h.front h.back u ∙ ap (λ (z : List Placed). h.front ++ z) r.split ∙ sym (append_assoc h.front r.more r.text));
        ext = inl (refl, tt);
        spells = record { mid = (h.mid.0, h.mid.1, r.tail); front = h.front ++ r.more; back = r.text; split = refl; first = link; second = r.spells };
      }

  abbrev Linked : (ℕ → QueryTree → QueryLinks → QueryTree) → ℕ → Lang Placed Tailed → Lang Placed Tailed → Lang Placed Tailed
  Linked build n L P = Made (joined build) (Chained (Made first_operand P) (λ x. ChainText (λ (x : OperandsTailed) t. Links L x.2 t.at (kind t)) more_operands n x))

  pub moded_linked : (build : ℕ → QueryTree → QueryLinks → QueryTree) (n : ℕ) (P R : Lang Placed Tailed) → Moded P R → Moded (Linked build n N P) (Linked build n M R)
  moded_linked build n P R h = record { to = to; from = from }
    where
      to : (e : QueryTree) (y : Tail) (w : List Placed) → Linked build n N P (e, y) w → Extended (λ x. Linked build n M R (e, x)) y w
      to e y w m =
          let c = m.spells in
          let v = c.first.part in
          let one = h.to v.0 v.1 c.front c.first.spells in
          let r = chain_to n v.0 [] one.tail v.1 m.part one.more c.back one.ext (subst (λ (z : OperandsTailed). Chain N n z m.part c.back) c.first.is c.second) in
          record {
            tail = r.tail;
            text = one.text ++ r.text;
            more = r.more;
            split = c.split ∙ ap (λ (z : List Placed). z ++ c.back) one.split ∙ append_assoc one.text one.more c.back ∙ ap (λ (z : List Placed). one.text ++ z) r.split ∙ sym (append_assoc one.text r.text r.more);
            ext = subst (λ z. Extends r.tail z r.more) (sym (ap (λ (z : Tailed). z.1) m.is)) r.ext;
            spells = record {
              part = (m.part.0, m.part.1, r.tail);
              is = ap (λ (z : Tailed). (z.0, r.tail)) m.is;
              spells = record { mid = (v.0, [], one.tail); front = one.text; back = r.text; split = refl; first = record { part = (v.0, one.tail); is = refl; spells = one.spells }; second = r.spells };
            };
          }

      from : (e : QueryTree) (y : Tail) (w : List Placed) → Extended (λ x. Linked build n M R (e, x)) y w → Linked build n N P (e, y) w
      from e y w g =
          let m = g.spells in
          let c = m.spells in
          let v = c.first.part in
          let last = ap (λ (z : Tailed). z.1) m.is in
          let r = chain_from n v.0 [] v.1 m.part.2 (m.part.0, m.part.1, y) c.back g.more (subst (λ z. Extends z y g.more) last g.ext) (subst (λ (z : OperandsTailed). Chain M n z m.part c.back) c.first.is c.second) in
          let one = h.from v.0 r.tail (c.front ++ r.more) (record { tail = v.1; text = c.front; more = r.more; split = refl; ext = r.ext; spells = c.first.spells }) in
          record {
            part = (m.part.0, m.part.1, y);
            is = ap (λ (z : Tailed). (z.0, y)) m.is;
            spells = record {
              mid = (v.0, [], r.tail);
              front = c.front ++ r.more;
              back = r.text;
              split = g.split ∙ ap (λ (z : List Placed). z ++ g.more) c.split ∙ append_assoc c.front c.back g.more ∙ ap (λ (z : List Placed). c.front ++ z) r.split ∙ sym (append_assoc c.front r.more r.text);
              first = record { part = (v.0, r.tail); is = refl; spells = one };
              second = r.spells;
            };
          }

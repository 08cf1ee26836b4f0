-- Chains as lists of their links.
use Rattle.std.proofs.Common.{◌≡◌, ◌≤◌, ℕ, zero, suc, Bool, true, false, List, [], ◌∷◌, ◌++◌, length, append_assoc, refl, sym, ap, subst, ◌∙◌, arith}
use Rattle.std.proofs.lemmas.List.{append-nil}
use Rattle.kola_base.specs.Placed.{Placed}
use Rattle.kola_parse.specs.Kinds.{Lang}
use Rattle.kola_parse.specs.Listed.{Listed}
use Rattle.kola_parse.specs.Texts.{ends, Chained, Made, ChainText}
use Rattle.oql_syntax.specs.Alphabet.{Kind, KWord, kind}
use Rattle.oql_tree.specs.QueryTrees.{QueryTree, QueryLinks}
use Rattle.oql_syntax.specs.QueryReaders.{Tailed, OperandsTailed, first_operand, more_operands, chain_tree, joined}
use Rattle.oql_syntax.specs.Tails.{Tail, Plain, Compared}
use Rattle.oql_syntax.specs.Grammar.{Text, LinkedText, OperandsText, OpenLinkedText, at}
use Rattle.oql_syntax.specs.declared.word.QueryWord.{QueryWord}

-- ---- chains of equal links: what is read as a link is kept as store says

abbrev pub State : Type 0 → Type 0 → Type 0
State E L = E × List L

module _ {M L : Type 0} (store : M → L) (F : Placed → Lang Placed M) (Link : L → Text) where
  abbrev pub LinkFrom : Type 0
  LinkFrom = (l : L) (t : Placed) (w : List Placed) → Link l (t ∷ w) → (m : M) × (store m ≡ l) × F t m w

  abbrev pub LinkTo : Type 0
  LinkTo = (t : Placed) (m : M) (w : List Placed) → F t m w → Link (store m) (t ∷ w)

module _ {E M L : Type 0} (store : M → L) (F : Placed → Lang Placed M) (Link : L → Text) where
  abbrev pub grow : State E L → M → State E L
  grow x m = (x.0, x.1 ++ store m ∷ [])

  abbrev pub Chain : ℕ → State E L → State E L → List Placed → Type 0
  Chain n a y w = ChainText (λ (x : State E L) t. F t) grow n a y w

  links_to : LinkTo store F Link → (n : ℕ) (e : E) (ls : List L) (y : State E L) (w : List Placed) → Chain n (e, ls) y w → (ks : List L) × (y ≡ (e, ls ++ ks)) × (length ks ≤ n) × Listed Link ends ks w
  links_to to zero e ls y [] h = ([], h ∙ ap (λ (z : List L). (e, z)) (sym (append-nil ls)), omega arith, tt)
  links_to to zero e ls y (t ∷ w) h = absurd h
  links_to to (suc n) e ls y [] h = ([], h ∙ ap (λ (z : List L). (e, z)) (sym (append-nil ls)), omega arith, tt)
  links_to to (suc n) e ls y (t ∷ w) c =
      let k = store c.mid in
      let r = links_to to n e (ls ++ k ∷ []) y c.back c.second in
      (k ∷ r.0, r.1 ∙ ap (λ (z : List L). (e, z)) (append_assoc ls (k ∷ []) r.0), (let le = r.2 in omega (arith, le)), record { front = t ∷ c.front; back = c.back; split = ap (λ (z : List Placed). t ∷ z) c.split; first = to t c.mid c.front c.first; second = r.3 })

  links_from : LinkFrom store F Link → ((l : L) → Link l [] → ⊥) → (ks : List L) (n : ℕ) (e : E) (ls : List L) (w : List Placed) → length ks ≤ n → Listed Link ends ks w → Chain n (e, ls) (e, ls ++ ks) w
  links_from from full [] zero e ls [] le h = ap (λ (z : List L). (e, z)) (append-nil ls)
  links_from from full [] (suc n) e ls [] le h = ap (λ (z : List L). (e, z)) (append-nil ls)
  links_from from full [] n e ls (t ∷ w) le h = absurd h
  links_from from full (k ∷ ks) zero e ls w le h = absurd (omega (arith, le))
  links_from from full (k ∷ ks) (suc n) e ls w le h = by (λ ls v s. links_from from full ks n e ls v (omega (arith, le)) s) h.front h.back h.split h.first h.second
    where
      by : ((ls : List L) (v : List Placed) → Listed Link ends ks v → Chain n (e, ls) (e, ls ++ ks) v) → (u v : List Placed) → w ≡ u ++ v → Link k u → Listed Link ends ks v → Chain (suc n) (e, ls) (e, ls ++ k ∷ ks) w
      by go [] v i f s = absurd (full k f)
      by go (t ∷ u) v i f s =
          let g = from k t u f in
          let next = subst (λ (z : List L). Chain n (e, ls ++ k ∷ []) (e, z) v) (append_assoc ls (k ∷ []) ks) (go (ls ++ k ∷ []) v s) in
          subst (Chain (suc n) (e, ls) (e, ls ++ k ∷ ks)) (sym i) (record { mid = g.0; front = u; back = v; split = refl; first = g.2; second = subst (λ (z : L). Chain n (e, ls ++ z ∷ []) (e, ls ++ k ∷ ks) v) (sym g.1) next })

  -- ---- an operand and its links

  abbrev pub none_yet : E → State E L
  none_yet e = (e, [])

  abbrev pub Whole : {B : Type 0} → (State E L → B) → ℕ → Lang Placed E → Lang Placed B
  Whole out n P = Made out (Chained (Made none_yet P) (λ x. ChainText (λ (x : State E L) t. F t) grow n x))

  module _ {B : Type 0} (out : State E L → B) (P : Lang Placed E) (Operand : E → Text) where
    abbrev make : E → List L → B
    make e ls = out (e, ls)

    pub linked_to : LinkTo store F Link → ((e : E) (w : List Placed) → P e w → Operand e w) → (n : ℕ) (x : B) (w : List Placed) → Whole out n P x w → LinkedText n Operand Link make x w
    linked_to to first n x w h =
        let c = h.spells in
        let e = c.first.part in
        let r = links_to to n e [] h.part c.back (subst (λ (z : State E L). Chain n z h.part c.back) c.first.is c.second) in
        record { first = e; links = r.0; few = r.2; is = h.is ∙ ap out r.1; spells = record { front = c.front; back = c.back; split = c.split; first = first e c.front c.first.spells; second = r.3 } }

    pub linked_from : LinkFrom store F Link → ((l : L) → Link l [] → ⊥) → ((e : E) (w : List Placed) → Operand e w → P e w) → (n : ℕ) (x : B) (w : List Placed) → LinkedText n Operand Link make x w → Whole out n P x w
    linked_from from full first n x w h =
        let c = h.spells in
        record {
          part = (h.first, h.links);
          is = h.is;
          spells = record {
            mid = (h.first, []);
            front = c.front;
            back = c.back;
            split = c.split;
            first = record { part = h.first; is = refl; spells = first h.first c.front c.first };
            second = links_from from full h.links n h.first [] c.back h.few c.second;
          };
        }

-- ---- chains whose last operand may be open

abbrev pub is_open : Tail → Bool
is_open Plain = false
is_open Compared = false
is_open _ = true

-- a text that ended so may stand where b says whether it may be open
abbrev pub Fits : Bool → Tail → Type 0
Fits true x = Unit {0}
Fits false x = is_open x ≡ false

pub fits : (b : Bool) (x : Tail) → is_open x ≡ false → Fits b x
fits true x e = tt
fits false x e = e

-- a link is the word and an operand, behind a closed one
abbrev pub OpenLinkTo : QueryWord → Lang Placed Tailed → (Tail → ℕ → Kind → Lang Placed (ℕ × QueryTree × Tail)) → Type 0
OpenLinkTo word L Links = (x : Tail) (p : ℕ) (k : Kind) (l : ℕ × QueryTree × Tail) (w : List Placed) → Links x p k l w → (k ≡ KWord word) × (is_open x ≡ false) × (l.0 ≡ p) × L (l.1, l.2) w

abbrev pub OpenLinkFrom : QueryWord → Lang Placed Tailed → (Tail → ℕ → Kind → Lang Placed (ℕ × QueryTree × Tail)) → Type 0
OpenLinkFrom word L Links = (x : Tail) (p : ℕ) (e : QueryTree) (y : Tail) (w : List Placed) → is_open x ≡ false → L (e, y) w → Links x p (KWord word) (p, e, y) w

module _ (word : QueryWord) (L : Lang Placed Tailed) (Operand : Bool → QueryTree → Text) (Links : Tail → ℕ → Kind → Lang Placed (ℕ × QueryTree × Tail)) where
  abbrev OpenChain : ℕ → OperandsTailed → OperandsTailed → List Placed → Type 0
  OpenChain n a y w = ChainText (λ (x : OperandsTailed) t. Links x.2 t.at (kind t)) more_operands n a y w

  abbrev pub OperandTo : Type 0
  OperandTo = (b : Bool) (e : QueryTree) (x : Tail) (w : List Placed) → Fits b x → L (e, x) w → Operand b e w

  abbrev pub OperandFrom : Type 0
  OperandFrom = (b : Bool) (e : QueryTree) (w : List Placed) → Operand b e w → (x : Tail) × Fits b x × L (e, x) w

  open_to : OpenLinkTo word L Links → OperandTo → (b : Bool) (n : ℕ) (e : QueryTree) (ls : List (ℕ × QueryTree)) (x : Tail) (c : QueryTree) (u : List Placed) (y : OperandsTailed) (w : List Placed) → Fits b y.2 → L (c, x) u → OpenChain n (e, ls, x) y w
      → (ks : List (ℕ × QueryTree)) × (y.0 ≡ e) × (y.1 ≡ ls ++ ks) × (length ks ≤ n) × OperandsText word Operand b c ks (u ++ w)
  open_to link operand b zero e ls x c u y [] f o h =
      ([], ap (λ (z : OperandsTailed). z.0) h, ap (λ (z : OperandsTailed). z.1) h ∙ sym (append-nil ls), omega arith, subst (Operand b c) (sym (append-nil u)) (operand b c x u (subst (Fits b) (ap (λ (z : OperandsTailed). z.2) h) f) o))
  open_to link operand b zero e ls x c u y (t ∷ w) f o h = absurd h
  open_to link operand b (suc n) e ls x c u y [] f o h =
      ([], ap (λ (z : OperandsTailed). z.0) h, ap (λ (z : OperandsTailed). z.1) h ∙ sym (append-nil ls), omega arith, subst (Operand b c) (sym (append-nil u)) (operand b c x u (subst (Fits b) (ap (λ (z : OperandsTailed). z.2) h) f) o))
  open_to link operand b (suc n) e ls x c u y (t ∷ w) f o h =
      let g = link x t.at (kind t) h.mid h.front h.first in
      let r = open_to link operand b n e (ls ++ (h.mid.0, h.mid.1) ∷ []) h.mid.2 h.mid.1 h.front y h.back f g.3 h.second in
      let le = r.3 in (
        (h.mid.0, h.mid.1) ∷ r.0,
        r.1,
        r.2 ∙ append_assoc ls ((h.mid.0, h.mid.1) ∷ []) r.0,
        omega (arith, le),
        record {
          front = u;
          back = t ∷ w;
          split = refl;
          first = operand false c x u g.1 o;
          second = ((g.0, sym g.2), subst (OperandsText word Operand b h.mid.1 r.0) (sym h.split) r.4);
        },
      )

  abbrev pub OpenWhole : (ℕ → QueryTree → QueryLinks → QueryTree) → ℕ → Lang Placed Tailed
  OpenWhole make n = Made (joined make) (Chained (Made first_operand L) (λ x. ChainText (λ (x : OperandsTailed) t. Links x.2 t.at (kind t)) more_operands n x))

  pub open_linked_to : OpenLinkTo word L Links → OperandTo → (make : ℕ → QueryTree → QueryLinks → QueryTree) (n : ℕ) (b : Bool) (e : QueryTree) (x : Tail) (w : List Placed) → Fits b x → OpenWhole make n (e, x) w → OpenLinkedText n word Operand make b e w
  open_linked_to link operand build n b e x w f h =
      let c = h.spells in
      let v = c.first.part in
      let r = open_to link operand b n v.0 [] v.1 v.0 c.front h.part c.back (subst (Fits b) (ap (λ (z : Tailed). z.1) h.is) f) c.first.spells (subst (λ (z : OperandsTailed). OpenChain n z h.part c.back) c.first.is c.second) in
      record {
        first = v.0;
        links = r.0;
        few = r.3;
        is = ap (λ (z : Tailed). z.0) h.is ∙ ap (λ (z : QueryTree). chain_tree build z h.part.1) r.1 ∙ ap (chain_tree build v.0) r.2;
        spells = subst (OperandsText word Operand b v.0 r.0) (sym c.split) r.4;
      }

  -- the first operand, and a chain behind it
  record Begun (b : Bool) (n : ℕ) (e : QueryTree) (ls : List (ℕ × QueryTree)) (c : QueryTree) (ks : List (ℕ × QueryTree)) (w : List Placed) : Type 0 where
    tail : Tail
    last : Tail
    front : List Placed
    back : List Placed
    split : w ≡ front ++ back
    spells : L (c, tail) front
    more : OpenChain n (e, ls, tail) (e, ls ++ ks, last) back
    fit : Fits b last

  no_more : (n : ℕ) (e : QueryTree) (ls : List (ℕ × QueryTree)) (x : Tail) → OpenChain n (e, ls, x) (e, ls ++ [], x) []
  no_more zero e ls x = ap (λ (z : List (ℕ × QueryTree)). (e, z, x)) (append-nil ls)
  no_more (suc n) e ls x = ap (λ (z : List (ℕ × QueryTree)). (e, z, x)) (append-nil ls)

  open_from : OpenLinkFrom word L Links → OperandFrom → (b : Bool) (ks : List (ℕ × QueryTree)) (n : ℕ) (e : QueryTree) (ls : List (ℕ × QueryTree)) (c : QueryTree) (w : List Placed) → length ks ≤ n → OperandsText word Operand b c ks w → Begun b n e ls c ks w
  open_from link operand b [] n e ls c w le h =
      let o = operand b c w h in
      record { tail = o.0; last = o.0; front = w; back = []; split = sym (append-nil w); spells = o.2; more = no_more n e ls o.0; fit = o.1 }
  open_from link operand b (l ∷ ks) zero e ls c w le h = absurd (omega (arith, le))
  open_from link operand b (l ∷ ks) (suc n) e ls c w le h = by (λ v s. open_from link operand b ks n e (ls ++ l ∷ []) l.1 v (omega (arith, le)) s) h.front h.back h.split h.first h.second
    where
      by : ((v : List Placed) → OperandsText word Operand b l.1 ks v → Begun b n e (ls ++ l ∷ []) l.1 ks v) → (u v : List Placed) → w ≡ u ++ v → Operand false c u → at word l.0 (OperandsText word Operand b l.1 ks) v → Begun b (suc n) e ls c (l ∷ ks) w
      by go u [] i f s = absurd s
      by go u (t ∷ v) i f s =
          let o = operand false c u f in
          let r = go v s.1 in
          let place : t.at ≡ l.0 = s.0.1 in
          record {
            tail = o.0;
            last = r.last;
            front = u;
            back = t ∷ v;
            split = i;
            spells = o.2;
            more = record {
              mid = (t.at, l.1, r.tail);
              front = r.front;
              back = r.back;
              split = r.split;
              first = subst (λ k. Links o.0 t.at k (t.at, l.1, r.tail) r.front) (sym s.0.0) (link o.0 t.at l.1 r.tail r.front o.1 r.spells);
              second =
                  subst (λ (p : ℕ). OpenChain n (e, ls ++ (p, l.1) ∷ [], r.tail) (e, ls ++ l ∷ ks, r.last) r.back) (sym place)
                  (subst (λ (z : List (ℕ × QueryTree)). OpenChain n (e, ls ++ l ∷ [], r.tail) (e, z, r.last) r.back) (append_assoc ls (l ∷ []) ks) r.more);
            };
            fit = r.fit;
          }

  pub open_linked_from : OpenLinkFrom word L Links → OperandFrom → (make : ℕ → QueryTree → QueryLinks → QueryTree) (n : ℕ) (b : Bool) (e : QueryTree) (w : List Placed) → OpenLinkedText n word Operand make b e w → (x : Tail) × Fits b x × OpenWhole make n (e, x) w
  open_linked_from link operand build n b e w h =
      let r = open_from link operand b h.links n h.first [] h.first w h.few h.spells in (
        r.last,
        r.fit,
        record {
          part = (h.first, h.links, r.last);
          is = ap (λ (z : QueryTree). (z, r.last)) h.is;
          spells = record { mid = (h.first, [], r.tail); front = r.front; back = r.back; split = r.split; first = record { part = (h.first, r.tail); is = refl; spells = r.spells }; second = r.more };
        },
      )

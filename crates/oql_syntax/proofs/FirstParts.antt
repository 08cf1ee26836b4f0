-- Texts that begin with a text of a language: a token before the one is a token before the other.
use Rattle.std.proofs.Common.{◌≡◌, ℕ, Bool, List, [], ◌∷◌, ◌++◌, refl, sym, ap, subst}
use Rattle.kola_base.specs.Placed.{Placed}
use Rattle.kola_parse.specs.Kinds.{Lang}
use Rattle.kola_parse.specs.Texts.{Chained, Made, Led}
use Rattle.oql_syntax.specs.Alphabet.{Kind, kind}
use Rattle.oql_syntax.proofs.QuerySymbols.{Ahead}
use Rattle.oql_syntax.proofs.LevelLaws.{Inner, SetsFrom, CmpFrom, OpenOrFrom}
use Rattle.oql_syntax.proofs.RangeLaws.{AsFrom}

pub record FirstPart {A B : Type 0} (X : Lang Placed A → Lang Placed B) : Type 1 where
  pub map : (L M : Lang Placed A) → ((x : A) (w : List Placed) → L x w → M x w) → (y : B) (w : List Placed) → X L y w → X M y w
  pub out : (Q : Placed → Lang Placed A) (t : Placed) (y : B) (w : List Placed) → X (Q t) y w → X (Led Q) y (t ∷ w)
  pub into : (Q : Placed → Lang Placed A) (y : B) (w : List Placed) → X (Led Q) y w → Led (λ t. X (Q t)) y w
  pub part : (L : Lang Placed A) (y : B) (w : List Placed) → X L y w → (x : A) × (v : List Placed) × L x v

pub made_first : {A B : Type 0} (f : A → B) → FirstPart (λ L. Made f L)
made_first {A} {B} f = record {
  map = λ L M go y w h. record { part = h.part; is = h.is; spells = go h.part w h.spells };
  out = λ Q t y w h. record { part = h.part; is = h.is; spells = h.spells };
  into = into;
  part = λ L y w h. (h.part, w, h.spells);
}
  where
    into : (Q : Placed → Lang Placed A) (y : B) (w : List Placed) → Made f (Led Q) y w → Led (λ t. Made f (Q t)) y w
    into Q y [] h = absurd h.spells
    into Q y (t ∷ w) h = record { part = h.part; is = h.is; spells = h.spells }

pub chained_first : {A B : Type 0} (M : A → Lang Placed B) → FirstPart (λ L. Chained L M)
chained_first {A} {B} M = record {
  map = λ L K go y w h. record { mid = h.mid; front = h.front; back = h.back; split = h.split; first = go h.mid h.front h.first; second = h.second };
  out = λ Q t y w h. record { mid = h.mid; front = t ∷ h.front; back = h.back; split = ap (λ (z : List Placed). t ∷ z) h.split; first = h.first; second = h.second };
  into = λ Q y w h. into Q y w h.mid h.front h.back h.split h.first h.second;
  part = λ L y w h. (h.mid, h.front, h.first);
}
  where
    into : (Q : Placed → Lang Placed A) (y : B) (w : List Placed) (a : A) (u v : List Placed) → w ≡ u ++ v → Led Q a u → M a y v → Led (λ t. Chained (Q t) M) y w
    into Q y w a [] v e f s = absurd f
    into Q y w a (t ∷ u) v e f s = subst (Led (λ t. Chained (Q t) M) y) (sym e) (record { mid = a; front = u; back = v; split = refl; first = f; second = s })

pub both_first : {A B C : Type 0} {X : Lang Placed A → Lang Placed B} {Y : Lang Placed B → Lang Placed C} → FirstPart X → FirstPart Y → FirstPart (λ L. Y (X L))
both_first {A} {B} {C} {X} {Y} x y = record {
  map = λ L M go c w h. y.map (X L) (X M) (x.map L M go) c w h;
  out = λ Q t c w h. y.map (Led (λ t. X (Q t))) (X (Led Q)) (back Q) c (t ∷ w) (y.out (λ t. X (Q t)) t c w h);
  into = λ Q c w h. y.into (λ t. X (Q t)) c w (y.map (X (Led Q)) (Led (λ t. X (Q t))) (x.into Q) c w h);
  part = λ L c w h. let p = y.part (X L) c w h in x.part L p.0 p.1 p.2;
}
  where
    back : (Q : Placed → Lang Placed A) (b : B) (w : List Placed) → Led (λ t. X (Q t)) b w → X (Led Q) b w
    back Q b [] h = absurd h
    back Q b (t ∷ w) h = x.out Q t b w h

-- ---- a token of a kind

abbrev Marked : {A : Type 0} → Kind → Lang Placed A → Placed → Lang Placed A
Marked k P t x w = (kind t ≡ k) × P x w

to_ahead : {A : Type 0} (k : Kind) (P : Lang Placed A) (x : A) (w : List Placed) → Led (Marked k P) x w → Ahead k P x w
to_ahead k P x [] h = h
to_ahead k P x (t ∷ w) h = h

from_ahead : {A : Type 0} (k : Kind) (P : Lang Placed A) (x : A) (w : List Placed) → Ahead k P x w → Led (Marked k P) x w
from_ahead k P x [] h = h
from_ahead k P x (t ∷ w) h = h

module _ {A B : Type 0} {X : Lang Placed A → Lang Placed B} (h : FirstPart X) (k : Kind) (P : Lang Placed A) where
  pub ahead_out : (t : Placed) (y : B) (w : List Placed) → kind t ≡ k → X P y w → X (Ahead k P) y (t ∷ w)
  ahead_out t y w e g = h.map (Led (Marked k P)) (Ahead k P) (to_ahead k P) y (t ∷ w) (h.out (Marked k P) t y w (h.map P (Marked k P t) (λ x v f. (e, f)) y w g))

  led_ahead : (y : B) (w : List Placed) → Led (λ t. X (Marked k P t)) y w → Ahead k (X P) y w
  led_ahead y [] g = absurd g
  led_ahead y (t ∷ w) g = ((h.part (Marked k P t) y w g).2.0, h.map (Marked k P t) P (λ x v f. f.1) y w g)

  pub ahead_into : (y : B) (w : List Placed) → X (Ahead k P) y w → Ahead k (X P) y w
  ahead_into y w g = led_ahead y w (h.into (Marked k P) y w (h.map (Ahead k P) (Led (Marked k P)) (from_ahead k P) y w g))

-- ---- where the grammar begins with a first operand

whole_first : {A B C : Type 0} (out : B → C) (start : A → B) (M : B → Lang Placed B) → FirstPart (λ L. Made out (Chained (Made start L) M))
whole_first out start M = both_first (both_first (made_first start) (chained_first M)) (made_first out)

pub sets_first : (n : ℕ) (l : Inner) → FirstPart (SetsFrom n l)
sets_first n l = both_first (both_first (whole_first _ _ _) (whole_first _ _ _)) (whole_first _ _ _)

pub as_first : (n : ℕ) (l : Inner) → FirstPart (AsFrom n l)
as_first n l = both_first (sets_first n l) (chained_first _)

pub cmp_first : (n : ℕ) (l : Inner) → FirstPart (CmpFrom n l)
cmp_first n l = both_first (both_first (sets_first n l) (made_first _)) (chained_first _)

pub openor_first : (n : ℕ) (b : Bool) (l : Inner) → FirstPart (OpenOrFrom n b l)
openor_first n b l = both_first (whole_first _ _ _) (whole_first _ _ _)

-- What is found after all lines of a job, and which line is refused, as Layout.antt says it.
use Rattle.std.proofs.Common.{◌≡◌, ℕ, zero, suc, ◌+◌, ◌<◌, ◌≤◌, Bool, true, false, cond, ltb, List, [], ◌∷◌, Option, Some, None, Result, Ok, Err, IsOk, length, drop, refl, sym, ap, ◌∙◌, subst, arith, ◌⊎◌, inl, inr, ⊎_elim, ◌↔◌}
use Rattle.std.specs.List.{slice_get}
use Rattle.std.proofs.lemmas.Bool.{cases_order, ltb-true, ltb-false}
use Rattle.kola_top.proofs.WalkLaws.{lines-put_opened}
use Rattle.kola_top.specs.declared.section.Section.{Section}
use Rattle.kola_top.specs.declared.section.Section.TheVariants.{Schema, Database, Rules, Query}
use Rattle.kola_top.specs.declared.section.Span.{Span}
use Rattle.kola_top.specs.declared.section.Sections.{Sections}
use Rattle.kola_top.specs.declared.lines.Kind.{Kind}
use Rattle.kola_top.specs.declared.lines.Kind.TheVariants.{Blank, Text, Unknown, Header}
use Rattle.kola_top.specs.declared.layout.Opened.{Opened}
use Rattle.kola_top.specs.declared.layout.Progress.{Progress}
use Rattle.kola_top.specs.declared.layout.LayoutFault.{LayoutFault}
use Rattle.kola_top.specs.declared.layout.LayoutWhy.{LayoutWhy}
use Rattle.kola_top.specs.declared.layout.LayoutWhy.TheVariants.{TextBefore, UnknownSection, SectionOutOfOrder}
use Rattle.kola_top.specs.Layout.{Line, kind, kinds, order, place_of, is_header, next_header, IsPlaceOf, IsFaulty, IsFaultless, IsFirstFault, AreSections, lines_of}
use Rattle.kola_top.specs.Scan.{put, put_opened, closed, least_order, refused, read_text, read_kind, counted, read, go_on, walk, start}

-- ---- sections in their order

place_of-put_same : (s : Section) (x : Span) (found : Sections) → place_of s (put s x found) ≡ Some x
place_of-put_same Schema x found = refl
place_of-put_same Database x found = refl
place_of-put_same Rules x found = refl
place_of-put_same Query x found = refl

place_of-put_other : (s t : Section) (x : Span) (found : Sections) → (order s ≡ order t → ⊥) → place_of s (put t x found) ≡ place_of s found
place_of-put_other Schema Schema x found h = absurd (h refl)
place_of-put_other Database Database x found h = absurd (h refl)
place_of-put_other Rules Rules x found h = absurd (h refl)
place_of-put_other Query Query x found h = absurd (h refl)
place_of-put_other _ _ x found h = refl

place_of-counted : (s : Section) (p : Progress) → place_of s (counted p).found ≡ place_of s p.found
place_of-counted Schema p = refl
place_of-counted Database p = refl
place_of-counted Rules p = refl
place_of-counted Query p = refl

order_same : (s t : Section) → order s ≡ order t → s ≡ t
order_same Schema Schema e = refl
order_same Database Database e = refl
order_same Rules Rules e = refl
order_same Query Query e = refl
order_same _ _ e = absurd (omega (arith, e))

-- ---- lines behind others: low is the least place in the order that a header there may have, and 0 where no header came before

abbrev FaultyFrom : ℕ → List Kind → ℕ → LayoutWhy → Type 0
FaultyFrom low ks k TextBefore = (low ≡ 0) × IsFaulty ks k TextBefore
FaultyFrom low ks k UnknownSection = IsFaulty ks k UnknownSection
FaultyFrom low ks k SectionOutOfOrder = (s : Section) × (slice_get ks k ≡ Some (Header s)) × ((order s < low) ⊎ ((j : ℕ) × (t : Section) × (j < k) × (slice_get ks j ≡ Some (Header t)) × (order s ≤ order t)))

-- behind one more line
abbrev low_behind : Kind → ℕ → ℕ
low_behind (Header s) low = order s + 1
low_behind _ low = low

-- a line that is taken
abbrev IsTaken : Kind → ℕ → Type 0
IsTaken Blank low = Unit {0}
IsTaken Text low = 0 < low
IsTaken Unknown low = ⊥
IsTaken (Header s) low = low ≤ order s

no_header : (ks : List Kind) (k : ℕ) (x : Kind) → is_header x ≡ false → ((j : ℕ) (s : Section) → j < k → slice_get ks j ≡ Some (Header s) → ⊥) → (j : ℕ) (s : Section) → j < suc k → slice_get (x ∷ ks) j ≡ Some (Header s) → ⊥
no_header ks k Blank f h zero s l e = cc
no_header ks k Text f h zero s l e = cc
no_header ks k Unknown f h zero s l e = cc
no_header ks k (Header t) f h zero s l e = cc
no_header ks k x f h (suc j) s l e = h j s (omega arith) e

header_same : (s t : Section) → Some (Header s) ≡ Some (Header t) → s ≡ t
header_same s t e = cc

-- a line that is taken is not faulty
taken_is_right : (x : Kind) (low : ℕ) (ks : List Kind) (why : LayoutWhy) → IsTaken x low → FaultyFrom low (x ∷ ks) 0 why → ⊥
taken_is_right Blank low ks TextBefore t f = cc
taken_is_right Blank low ks UnknownSection t f = cc
taken_is_right Blank low ks SectionOutOfOrder t f = cc
taken_is_right Text low ks TextBefore t f = omega (arith, t, f.0)
taken_is_right Text low ks UnknownSection t f = cc
taken_is_right Text low ks SectionOutOfOrder t f = cc
taken_is_right (Header s) low ks TextBefore t f = cc
taken_is_right (Header s) low ks UnknownSection t f = cc
taken_is_right (Header s) low ks SectionOutOfOrder t f =
    let same : order s ≡ order f.0 = ap order (header_same s f.0 f.1) in
    ⊎_elim (λ before. omega arith) (λ w. omega (arith, w.2)) f.2
taken_is_right Unknown low ks why t f = absurd t

-- a header before a place that no header of s may follow
abbrev Bars : List Kind → ℕ → Section → Type 0
Bars ks k s = (j : ℕ) × (t : Section) × (j < k) × (slice_get ks j ≡ Some (Header t)) × (order s ≤ order t)

bars_behind : (x : Kind) (ks : List Kind) (k : ℕ) (s : Section) → Bars (x ∷ ks) (suc k) s → ((t : Section) × (Some x ≡ Some (Header t)) × (order s ≤ order t)) ⊎ Bars ks k s
bars_behind x ks k s (zero, t, l, e, o) = inl (t, e, o)
bars_behind x ks k s (suc j, t, l, e, o) = inr (j, t, omega arith, e, o)

bars_before : (x : Kind) (ks : List Kind) (k : ℕ) (s : Section) → Bars ks k s → Bars (x ∷ ks) (suc k) s
bars_before x ks k s b = (suc b.0, b.1, omega (arith, b.2), b.3, b.4)

-- what is faulty behind a line that is taken
faulty_behind : (x : Kind) (low : ℕ) (ks : List Kind) (k : ℕ) (why : LayoutWhy) → IsTaken x low → FaultyFrom low (x ∷ ks) (suc k) why → FaultyFrom (low_behind x low) ks k why
faulty_behind x low ks k UnknownSection t f = f
faulty_behind (Header s) low ks k TextBefore t f = absurd (f.1.1 0 s (omega arith) refl)
faulty_behind (Header s) low ks k SectionOutOfOrder t f = (
  f.0,
  f.1,
  ⊎_elim (λ b. inl (omega (arith, b, t)))
      (λ w. ⊎_elim (λ b. let same : order s ≡ order b.0 = ap order (header_same s b.0 b.1) in inl (omega (arith, b.2))) (λ b. inr b) (bars_behind (Header s) ks k f.0 w)) f.2,
)
faulty_behind Blank low ks k TextBefore t f = (f.0, (f.1.0, λ j s l e. f.1.1 (suc j) s (omega arith) e))
faulty_behind Blank low ks k SectionOutOfOrder t f = (f.0, f.1, ⊎_elim (λ b. inl b) (λ w. ⊎_elim (λ b. cc) (λ b. inr b) (bars_behind Blank ks k f.0 w)) f.2)
faulty_behind Text low ks k TextBefore t f = (f.0, (f.1.0, λ j s l e. f.1.1 (suc j) s (omega arith) e))
faulty_behind Text low ks k SectionOutOfOrder t f = (f.0, f.1, ⊎_elim (λ b. inl b) (λ w. ⊎_elim (λ b. cc) (λ b. inr b) (bars_behind Text ks k f.0 w)) f.2)
faulty_behind Unknown low ks k why t f = absurd t

faulty_before : (x : Kind) (low : ℕ) (ks : List Kind) (k : ℕ) (why : LayoutWhy) → IsTaken x low → FaultyFrom (low_behind x low) ks k why → FaultyFrom low (x ∷ ks) (suc k) why
faulty_before x low ks k UnknownSection t f = f
faulty_before (Header s) low ks k TextBefore t f = absurd (omega (arith, f.0))
faulty_before (Header s) low ks k SectionOutOfOrder t f = (f.0, f.1, inr (⊎_elim (λ b. (0, s, omega arith, refl, omega (arith, b))) (bars_before (Header s) ks k f.0) f.2))
faulty_before Blank low ks k TextBefore t f = (f.0, (f.1.0, no_header ks k Blank refl f.1.1))
faulty_before Blank low ks k SectionOutOfOrder t f = (f.0, f.1, ⊎_elim (λ b. inl b) (λ b. inr (bars_before Blank ks k f.0 b)) f.2)
faulty_before Text low ks k TextBefore t f = (f.0, (f.1.0, no_header ks k Text refl f.1.1))
faulty_before Text low ks k SectionOutOfOrder t f = (f.0, f.1, ⊎_elim (λ b. inl b) (λ b. inr (bars_before Text ks k f.0 b)) f.2)
faulty_before Unknown low ks k why t f = absurd t

-- ---- what a walk from p on over the lines says

record PlaceFrom (end : ℕ) (ls : List Line) (p : Progress) (s : Section) (o : Option Span) : Type 0 where
  ended : order s + 1 < least_order p.opened → o ≡ place_of s p.found
  open_still : (c : Opened) → p.opened ≡ Some c → order s ≡ order c.section → o ≡ Some (record { from = c.from; to = next_header end ls })
  to_come : least_order p.opened ≤ order s → IsPlaceOf ls end s o

abbrev IsFaultlessFrom : ℕ → List Kind → Type 0
IsFaultlessFrom low ks = (k : ℕ) (why : LayoutWhy) → FaultyFrom low ks k why → ⊥

record FoundFrom (end : ℕ) (ls : List Line) (p : Progress) (found : Sections) : Type 0 where
  count : found.lines ≡ p.found.lines + length ls
  faultless : IsFaultlessFrom (least_order p.opened) (kinds ls)
  places : (s : Section) → PlaceFrom end ls p s (place_of s found)

record FaultFrom (ls : List Line) (p : Progress) (f : LayoutFault) : Type 0 where
  at : ℕ
  line : f.line ≡ p.found.lines + at + 1
  faulty : FaultyFrom (least_order p.opened) (kinds ls) at f.why
  first : (k : ℕ) (why : LayoutWhy) → k < at → FaultyFrom (least_order p.opened) (kinds ls) k why → ⊥

abbrev Says : ℕ → List Line → Progress → Result Sections LayoutFault → Type 0
Says end ls p (Ok found) = FoundFrom end ls p found
Says end ls p (Err f) = FaultFrom ls p f

-- p goes to q over the line l
record IsStep (end : ℕ) (l : Line) (ls : List Line) (p q : Progress) : Type 0 where
  counts : q.found.lines ≡ p.found.lines + 1
  taken : IsTaken (kind l.bytes) (least_order p.opened)
  low : least_order q.opened ≡ low_behind (kind l.bytes) (least_order p.opened)
  place : IsFaultlessFrom (least_order q.opened) (kinds ls) → (s : Section) (o : Option Span) → PlaceFrom end ls q s o → PlaceFrom end (l ∷ ls) p s o

module _ (end : ℕ) (l : Line) (ls : List Line) (p q : Progress) (step : IsStep end l ls p q) where
  behind : (k : ℕ) (why : LayoutWhy) → FaultyFrom (least_order p.opened) (kinds (l ∷ ls)) (suc k) why → FaultyFrom (least_order q.opened) (kinds ls) k why
  behind k why f = subst (λ n. FaultyFrom n (kinds ls) k why) (sym step.low) (faulty_behind (kind l.bytes) _ (kinds ls) k why step.taken f)

  ahead : (k : ℕ) (why : LayoutWhy) → FaultyFrom (least_order q.opened) (kinds ls) k why → FaultyFrom (least_order p.opened) (kinds (l ∷ ls)) (suc k) why
  ahead k why f = faulty_before (kind l.bytes) _ (kinds ls) k why step.taken (subst (λ n. FaultyFrom n (kinds ls) k why) step.low f)

  none_faulty : IsFaultlessFrom (least_order q.opened) (kinds ls) → IsFaultlessFrom (least_order p.opened) (kinds (l ∷ ls))
  none_faulty h zero why f = taken_is_right (kind l.bytes) _ (kinds ls) why step.taken f
  none_faulty h (suc k) why f = h k why (behind k why f)

  none_faulty_before : (at : ℕ) → ((k : ℕ) (why : LayoutWhy) → k < at → FaultyFrom (least_order q.opened) (kinds ls) k why → ⊥) → (k : ℕ) (why : LayoutWhy) → k < suc at → FaultyFrom (least_order p.opened) (kinds (l ∷ ls)) k why → ⊥
  none_faulty_before at h zero why b f = taken_is_right (kind l.bytes) _ (kinds ls) why step.taken f
  none_faulty_before at h (suc k) why b f = h k why (omega arith) (behind k why f)

  says_more : (r : Result Sections LayoutFault) → Says end ls q r → Says end (l ∷ ls) p r
  says_more (Ok found) h = record {
    count = omega (arith, h.count, step.counts);
    faultless = none_faulty h.faultless;
    places = λ s. step.place h.faultless s (place_of s found) (h.places s);
  }
  says_more (Err f) h = record {
    at = suc h.at;
    line = omega (arith, h.line, step.counts);
    faulty = ahead h.at f.why h.faulty;
    first = none_faulty_before h.at h.first;
  }

-- ---- the steps

record IsFresh (p : Progress) : Type 0 where
  none : (s : Section) → least_order p.opened ≤ order s → place_of s p.found ≡ None

fresh_counted : (p : Progress) → IsFresh p → IsFresh (counted p)
fresh_counted p f = record { none = λ s h. place_of-counted s p ∙ f.none s h }

kind_from : {x y : Kind} → Some x ≡ Some y → x ≡ y
kind_from e = cc

none_behind : (l : Line) (ls : List Line) (s : Section) → (kind l.bytes ≡ Header s → ⊥) → ((k : ℕ) → slice_get (kinds ls) k ≡ Some (Header s) → ⊥) → (k : ℕ) → slice_get (kinds (l ∷ ls)) k ≡ Some (Header s) → ⊥
none_behind l ls s n h zero e = n (kind_from e)
none_behind l ls s n h (suc k) e = h k e

place_behind : (l : Line) (ls : List Line) (end : ℕ) (s : Section) (o : Option Span) → (kind l.bytes ≡ Header s → ⊥) → IsPlaceOf ls end s o → IsPlaceOf (l ∷ ls) end s o
place_behind l ls end s None n h = none_behind l ls s n h
place_behind l ls end s (Some p) n h = (suc h.0, h.1, h.2, h.3, h.4, h.5)

-- a line that is no header
module _ (end : ℕ) (l : Line) (ls : List Line) (p : Progress) where
  plain_place : is_header (kind l.bytes) ≡ false → (s : Section) (o : Option Span) → PlaceFrom end ls (counted p) s o → PlaceFrom end (l ∷ ls) p s o
  plain_place e s o x = record {
    ended = λ h. x.ended h ∙ place_of-counted s p;
    open_still = λ c h k. rw e (x.open_still c h k);
    to_come = λ h. place_behind l ls end s o (λ t. true_false (sym (ap is_header t) ∙ e)) (x.to_come h);
  }
    where
      true_false : true ≡ false → ⊥
      true_false e = cc

  plain_step : is_header (kind l.bytes) ≡ false → IsTaken (kind l.bytes) (least_order p.opened) → least_order p.opened ≡ low_behind (kind l.bytes) (least_order p.opened) → IsStep end l ls p (counted p)
  plain_step e t w = record { counts = refl; taken = t; low = w; place = λ _. plain_place e }

-- the end of the open section
module _ (s : Section) (to : ℕ) (found : Sections) where
  put_opened_apart : (o : Option Opened) → ((c : Opened) → o ≡ Some c → order s ≡ order c.section → ⊥) → place_of s (put_opened o to found) ≡ place_of s found
  put_opened_apart None h = refl
  put_opened_apart (Some c) h = place_of-put_other s c.section _ found (h c refl)

  put_opened_same : (o : Option Opened) (c : Opened) → o ≡ Some c → order s ≡ order c.section → place_of s (put_opened o to found) ≡ Some (record { from = c.from; to = to })
  put_opened_same o c e h = rw (e, order_same s c.section h) (place_of-put_same c.section _ found)

-- the header of a section that may come
module _ (end : ℕ) (l : Line) (ls : List Line) (p : Progress) (t : Section) (header : kind l.bytes ≡ Header t) (late : least_order p.opened ≤ order t) where
  abbrev next : Progress
  next = record { found = closed l.from (counted p); opened = Some (record { section = t; from = l.next }) }

  before_t : (c : Opened) → p.opened ≡ Some c → order c.section < order t
  before_t c e = omega (arith, late, ap least_order e)

  place_kept : (s : Section) → ((c : Opened) → p.opened ≡ Some c → order s ≡ order c.section → ⊥) → place_of s next.found ≡ place_of s p.found
  place_kept s h = put_opened_apart s l.from (counted p).found p.opened h ∙ place_of-counted s p

  fresh_next : IsFresh p → IsFresh next
  fresh_next f = record { none = λ s h. place_kept s (λ c e k. omega (arith, before_t c e)) ∙ f.none s (omega (arith, late)) }

  no_place : IsFaultlessFrom (order t + 1) (kinds ls) → (s : Section) → order s < order t → IsPlaceOf (l ∷ ls) end s None
  no_place h s b zero e = let k : order t ≡ order s = ap order (header_same t s (sym (ap Some header) ∙ e)) in omega arith
  no_place h s b (suc k) e = h k SectionOutOfOrder (s, e, inl (omega arith))

  header_place : IsFresh p → IsFaultlessFrom (order t + 1) (kinds ls) → (s : Section) (o : Option Span) → PlaceFrom end ls next s o → PlaceFrom end (l ∷ ls) p s o
  header_place f h s o x = record {
    ended = λ b. x.ended (omega (arith, late)) ∙ place_kept s (λ c e k. omega (arith, ap least_order e));
    open_still = λ c e k.
        let b = before_t c e in
        rw header (x.ended (omega arith) ∙ put_opened_same s l.from (counted p).found p.opened c e k);
    to_come = λ b. ⊎_elim (λ k. here k (x.open_still _ refl k))
        (⊎_elim (λ k. gone k (x.ended (omega arith) ∙ place_kept s (λ c e i. omega (arith, ap least_order e)) ∙ f.none s b)) (λ k. place_behind l ls end s o (λ i. apart k i) (x.to_come (omega arith)))) (cases_order (order s) (order t));
  }
    where
      here : order s ≡ order t → o ≡ Some (record { from = l.next; to = next_header end ls }) → IsPlaceOf (l ∷ ls) end s o
      here k e = subst (IsPlaceOf (l ∷ ls) end s) (sym e) (0, l, refl, header ∙ ap Header (sym (order_same s t k)), refl, refl)

      gone : order s < order t → o ≡ None → IsPlaceOf (l ∷ ls) end s o
      gone k e = subst (IsPlaceOf (l ∷ ls) end s) (sym e) (no_place h s k)

      apart : order t < order s → kind l.bytes ≡ Header s → ⊥
      apart k e = let i : order t ≡ order s = ap order (header_same t s (ap Some (sym header ∙ e))) in omega arith

  header_step : IsFresh p → IsStep end l ls p next
  header_step f = record {
    counts = lines-put_opened p.opened l.from (counted p).found;
    taken = rw header late;
    low = rw header refl;
    place = header_place f;
  }

-- ---- the walk

module _ (end : ℕ) (l : Line) (ls : List Line) (p : Progress) (fresh : IsFresh p) (rest : (q : Progress) → IsFresh q → Says end ls q (walk end ls q)) where
  plain : is_header (kind l.bytes) ≡ false → IsTaken (kind l.bytes) (least_order p.opened) → least_order p.opened ≡ low_behind (kind l.bytes) (least_order p.opened) → Says end (l ∷ ls) p (walk end ls (counted p))
  plain e t w = says_more end l ls p (counted p) (plain_step end l ls p e t w) (walk end ls (counted p)) (rest (counted p) (fresh_counted p fresh))

  text : (o : Option Opened) → p.opened ≡ o → kind l.bytes ≡ Text → Says end (l ∷ ls) p (go_on (read_text o (counted p)) (walk end ls))
  text None e k = record {
    at = 0;
    line = omega arith;
    faulty = (ap least_order e, (ap Some k, λ j s b. absurd (omega arith)));
    first = λ j why b. absurd (omega arith);
  }
  text (Some c) e k = plain (ap is_header k) (rw (k, e) (omega arith)) (rw k refl)

  header : (t : Section) (b : Bool) → ltb (order t) (least_order p.opened) ≡ b → kind l.bytes ≡ Header t → Says end (l ∷ ls) p (go_on (cond b (refused (counted p) SectionOutOfOrder) (Ok (record { found = closed l.from (counted p); opened = Some (record { section = t; from = l.next }) }))) (walk end ls))
  header t true e k = record {
    at = 0;
    line = omega arith;
    faulty = (t, ap Some k, inl (ltb-true _ _ e));
    first = λ j why b. absurd (omega arith);
  }
  header t false e k =
      let late = ltb-false _ _ e in
      says_more end l ls p _ (header_step end l ls p t k late fresh) _ (rest _ (fresh_next end l ls p t k late fresh))

  turn : (x : Kind) → kind l.bytes ≡ x → Says end (l ∷ ls) p (go_on (read_kind x l (counted p)) (walk end ls))
  turn Blank e = plain (ap is_header e) (rw e tt) (rw e refl)
  turn Text e = text p.opened refl e
  turn Unknown e = record {
    at = 0;
    line = omega arith;
    faulty = ap Some e;
    first = λ j why b. absurd (omega arith);
  }
  turn (Header t) e = header t _ refl e

walked : (end : ℕ) (ls : List Line) (p : Progress) → IsFresh p → Says end ls p (walk end ls p)
unfolding walk read
walked end [] p f = record {
  count = omega (arith, lines-put_opened p.opened end p.found);
  faultless = nothing;
  places = λ s. record {
    ended = λ h. put_opened_apart s end p.found p.opened (λ c e k. omega (arith, ap least_order e));
    open_still = λ c e k. put_opened_same s end p.found p.opened c e k;
    to_come = λ h. subst (IsPlaceOf [] end s) (sym (put_opened_apart s end p.found p.opened (λ c e k. omega (arith, ap least_order e)) ∙ f.none s h)) (λ k e. cc);
  };
}
  where
    nothing : (k : ℕ) (why : LayoutWhy) → FaultyFrom (least_order p.opened) [] k why → ⊥
    nothing k TextBefore f = cc
    nothing k UnknownSection f = cc
    nothing k SectionOutOfOrder f = cc
walked end (l ∷ ls) p f = turn end l ls p f (λ q g. walked end ls q g) (kind l.bytes) refl

-- ---- the walk from the start

fresh_start : IsFresh start
fresh_start = record { none = nothing }
  where
    nothing : (s : Section) → 0 ≤ order s → place_of s start.found ≡ None
    nothing Schema h = refl
    nothing Database h = refl
    nothing Rules h = refl
    nothing Query h = refl

faulty_from_start : (ks : List Kind) (k : ℕ) (why : LayoutWhy) → IsFaulty ks k why → FaultyFrom 0 ks k why
faulty_from_start ks k TextBefore f = (refl, f)
faulty_from_start ks k UnknownSection f = f
faulty_from_start ks k SectionOutOfOrder f = (f.0, f.1, inr f.2)

faulty_in_all : (ks : List Kind) (k : ℕ) (why : LayoutWhy) → FaultyFrom 0 ks k why → IsFaulty ks k why
faulty_in_all ks k TextBefore f = f.1
faulty_in_all ks k UnknownSection f = f
faulty_in_all ks k SectionOutOfOrder f = (f.0, f.1, ⊎_elim (λ b. absurd (omega (arith, b))) (λ b. b) f.2)

-- a line is faulty for one cause
one_cause : (ks : List Kind) (k : ℕ) (v w : LayoutWhy) → IsFaulty ks k v → IsFaulty ks k w → v ≡ w
one_cause ks k TextBefore TextBefore f g = refl
one_cause ks k UnknownSection UnknownSection f g = refl
one_cause ks k SectionOutOfOrder SectionOutOfOrder f g = refl
one_cause ks k TextBefore UnknownSection f g = cc
one_cause ks k TextBefore SectionOutOfOrder f g = cc
one_cause ks k UnknownSection TextBefore f g = cc
one_cause ks k UnknownSection SectionOutOfOrder f g = cc
one_cause ks k SectionOutOfOrder TextBefore f g = cc
one_cause ks k SectionOutOfOrder UnknownSection f g = cc

-- there is one first fault
pub one_fault : (ks : List Kind) (f g : LayoutFault) → IsFirstFault ks f → IsFirstFault ks g → f ≡ g
one_fault ks f g a b = ⊎_elim same (⊎_elim (λ h. absurd (b.first a.at f.why h a.faulty)) (λ h. absurd (a.first b.at g.why h b.faulty))) (cases_order a.at b.at)
  where
    same : a.at ≡ b.at → f ≡ g
    same e =
        let line : f.line ≡ g.line = omega (arith, a.line, b.line, e) in
        let why : f.why ≡ g.why = one_cause ks b.at f.why g.why (subst (λ k. IsFaulty ks k f.why) e a.faulty) b.faulty in
        λ i. record { line = line i; why = why i }

slice_get-kinds : (ls : List Line) (k : ℕ) (l : Line) (s : Section) → slice_get ls k ≡ Some l → kind l.bytes ≡ Header s → slice_get (kinds ls) k ≡ Some (Header s)
slice_get-kinds [] k l s e h = cc
slice_get-kinds (m ∷ ls) zero l s e h = let same : m ≡ l = cc in rw same (ap Some h)
slice_get-kinds (m ∷ ls) (suc k) l s e h = slice_get-kinds ls k l s e h

-- a section has one place where no line is faulty
module _ (ls : List Line) (end : ℕ) (faultless : IsFaultless (kinds ls)) (s : Section) where
  one_header : (j k : ℕ) → slice_get (kinds ls) j ≡ Some (Header s) → slice_get (kinds ls) k ≡ Some (Header s) → j ≡ k
  one_header j k d e = ⊎_elim (λ i. i) (⊎_elim
      (λ b. absurd (faultless k SectionOutOfOrder (s, e, (j, s, b, d, omega arith))))
      (λ b. absurd (faultless j SectionOutOfOrder (s, d, (k, s, b, e, omega arith))))) (cases_order j k)

  one_place : (o q : Option Span) → IsPlaceOf ls end s o → IsPlaceOf ls end s q → o ≡ q
  one_place None None h g = refl
  one_place None (Some p) h g = absurd (h g.0 (slice_get-kinds ls g.0 g.1 s g.2 g.3))
  one_place (Some p) None h g = absurd (g h.0 (slice_get-kinds ls h.0 h.1 s h.2 h.3))
  one_place (Some p) (Some q) h g =
      let at : h.0 ≡ g.0 = one_header h.0 g.0 (slice_get-kinds ls h.0 h.1 s h.2 h.3) (slice_get-kinds ls g.0 g.1 s g.2 g.3) in
      let line : h.1 ≡ g.1 = some_same (sym h.2 ∙ ap (slice_get ls) at ∙ g.2) in
      let from : p.from ≡ q.from = h.4 ∙ ap (λ (l : Line). l.next) line ∙ sym g.4 in
      let to : p.to ≡ q.to = h.5 ∙ ap (λ k. next_header end (drop (suc k) ls)) at ∙ sym g.5 in
      ap Some (λ i. record { from = from i; to = to i })
    where
      some_same : {l m : Line} → Some l ≡ Some m → l ≡ m
      some_same e = cc

-- a job has one answer
pub one_layout : (job : List ℕ) (f g : Sections) → AreSections job f → AreSections job g → f ≡ g
one_layout job f g a b =
    let same : (s : Section) → place_of s f ≡ place_of s g = λ s. one_place (lines_of job) (length job) a.faultless s _ _ (a.places s) (b.places s) in
    let schema : f.schema ≡ g.schema = same Schema in
    let database : f.database ≡ g.database = same Database in
    let rules : f.rules ≡ g.rules = same Rules in
    let query : f.query ≡ g.query = same Query in
    let lines : f.lines ≡ g.lines = a.lines ∙ sym b.lines in
    λ i. record { schema = schema i; database = database i; rules = rules i; query = query i; lines = lines i }

-- what the walk answers, by its two cases
abbrev pub IsLayout : List ℕ → Result Sections LayoutFault → Type 0
IsLayout job (Ok found) = AreSections job found
IsLayout job (Err f) = IsFirstFault (kinds (lines_of job)) f

layout_from : (job : List ℕ) (r : Result Sections LayoutFault) → Says (length job) (lines_of job) start r → IsLayout job r
layout_from job (Ok found) h = record {
  faultless = λ k why f. h.faultless k why (faulty_from_start _ k why f);
  places = λ s. (h.places s).to_come (omega arith);
  lines = omega (arith, h.count);
}
layout_from job (Err f) h = record {
  at = h.at;
  line = omega (arith, h.line);
  faulty = faulty_in_all _ h.at f.why h.faulty;
  first = λ k why b g. h.first k why b (faulty_from_start _ k why g);
}

pub walk_is : (job : List ℕ) (r : Result Sections LayoutFault) → r ≡ walk (length job) (lines_of job) start → IsLayout job r
walk_is job r e = subst (IsLayout job) (sym e) (layout_from job _ (walked (length job) (lines_of job) start fresh_start))

-- ---- the clauses, by the two cases of the answer

pub accepted : (job : List ℕ) (r : Result Sections LayoutFault) → IsLayout job r → IsOk r ↔ IsFaultless (kinds (lines_of job))
accepted job (Ok found) h = (λ _. h.faultless, λ _. refl)
accepted job (Err f) h = (λ e. cc, λ g. absurd (g h.at f.why h.faulty))

pub found : (job : List ℕ) (r : Result Sections LayoutFault) → IsLayout job r → (s : Sections) → (r ≡ Ok s) ↔ AreSections job s
found job (Ok f) h s = (λ e. let same : f ≡ s = cc in subst (AreSections job) same h, λ g. ap Ok (one_layout job f s h g))
found job (Err f) h s = (λ e. cc, λ g. absurd (g.faultless h.at f.why h.faulty))

pub refuses : (job : List ℕ) (r : Result Sections LayoutFault) → IsLayout job r → (f : LayoutFault) → (r ≡ Err f) ↔ IsFirstFault (kinds (lines_of job)) f
refuses job (Ok found) h f = (λ e. cc, λ g. absurd (h.faultless g.at f.why g.faulty))
refuses job (Err e) h f = (λ q. let same : e ≡ f = cc in subst (IsFirstFault (kinds (lines_of job))) same h, λ g. ap Err (one_fault _ e f h g))

-- What a walk over the lines of a job finds, and which line it refuses.
use Rattle.std.proofs.Common.{◌≡◌, ℕ, ◌+◌, Bool, true, false, cond, List, [], ◌∷◌, Option, Some, None, Result, Ok, Err, IfOk, refl, sym, subst}
use Rattle.kola_top.specs.declared.section.Section.{Section}
use Rattle.kola_top.specs.declared.section.Section.TheVariants.{Schema, Database, Rules, Query}
use Rattle.kola_top.specs.declared.section.Span.{Span}
use Rattle.kola_top.specs.declared.section.Sections.{Sections}
use Rattle.kola_top.specs.declared.lines.Kind.{Kind}
use Rattle.kola_top.specs.declared.lines.Kind.TheVariants.{Blank, Text, Unknown, Header}
use Rattle.kola_top.specs.declared.layout.Opened.{Opened}
use Rattle.kola_top.specs.declared.layout.Progress.{Progress}
use Rattle.kola_top.specs.declared.layout.LayoutFault.{LayoutFault}
use Rattle.kola_top.specs.declared.layout.LayoutWhy.TheVariants.{SectionOutOfOrder}
use Rattle.kola_top.specs.Layout.{Line, kind}
use Rattle.kola_top.specs.Scan.{put, put_opened, closed, refused, read_text, read_kind, counted, read, walk}

-- ---- the turns of the loop

pub walk-goes_on : (end : ℕ) (l : Line) (ls more : List Line) (p q : Progress) → more ≡ l ∷ ls → Ok q ≡ read l p → walk end more p ≡ walk end ls q
unfolding walk
walk-goes_on end l ls more p q e r = rw (e, ← r) refl

pub walk-stops : (end : ℕ) (l : Line) (ls more : List Line) (p : Progress) (f : LayoutFault) → more ≡ l ∷ ls → Err f ≡ read l p → walk end more p ≡ Err f
unfolding walk
walk-stops end l ls more p f e r = rw (e, ← r) refl

pub walk-nil : (end : ℕ) (more : List Line) (p : Progress) → more ≡ [] → walk end more p ≡ Ok (closed end p)
unfolding walk
walk-nil end more p e = rw e refl

Counts : ℕ → Result Progress LayoutFault → Type 0
Counts n r = IfOk r (λ q. q.found.lines ≡ n)

lines-put : (s : Section) (x : Span) (found : Sections) → (put s x found).lines ≡ found.lines
lines-put Schema x found = refl
lines-put Database x found = refl
lines-put Rules x found = refl
lines-put Query x found = refl

pub lines-put_opened : (o : Option Opened) (to : ℕ) (found : Sections) → (put_opened o to found).lines ≡ found.lines
lines-put_opened None to found = refl
lines-put_opened (Some o) to found = lines-put o.section _ found

read_text-counts : (o : Option Opened) (p : Progress) → Counts p.found.lines (read_text o p)
unfolding Counts
read_text-counts None p = tt
read_text-counts (Some o) p = refl

read_header-counts : (q : Bool) (s : Section) (l : Line) (p : Progress) → Counts p.found.lines (cond q (refused p SectionOutOfOrder) (Ok (record { found = closed l.from p; opened = Some (record { section = s; from = l.next }) })))
unfolding Counts
read_header-counts true s l p = tt
read_header-counts false s l p = lines-put_opened p.opened l.from p.found

read_kind-counts : (k : Kind) (l : Line) (p : Progress) → Counts p.found.lines (read_kind k l p)
unfolding Counts
read_kind-counts Blank l p = refl
read_kind-counts Text l p = read_text-counts p.opened p
read_kind-counts Unknown l p = tt
read_kind-counts (Header s) l p = read_header-counts _ s l p

-- each line that is taken is counted
pub read-counts : (l : Line) (p q : Progress) → Ok q ≡ read l p → q.found.lines ≡ p.found.lines + 1
unfolding read Counts
read-counts l p q e =
    let h : Counts (p.found.lines + 1) (read l p) = read_kind-counts (kind l.bytes) l (counted p) in
    subst (Counts (p.found.lines + 1)) (sym e) h

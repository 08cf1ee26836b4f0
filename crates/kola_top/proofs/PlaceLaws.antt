-- The places of sections lie within the job, and a job has no more lines than bytes.
use Rattle.std.proofs.Common.{◌≡◌, ℕ, zero, suc, ◌+◌, ◌≤◌, Bool, true, false, List, [], ◌∷◌, length, drop, Option, Some, None, IfSome, refl, slice_get, arith, subst, if◌then◌else◌}
use Rattle.kola_top.specs.declared.section.Section.{Section}
use Rattle.kola_top.specs.declared.section.Span.{Span}
use Rattle.kola_top.specs.declared.section.Sections.{Sections}
use Rattle.kola_top.specs.Layout.{Line, kind, is_header, next_header, lines_of, AreInARow, IsPlaceOf, place_of, AreSections}
use Rattle.kola_top.proofs.RowLaws.{row_of}

row_rises : (from to : ℕ) (ls : List Line) → AreInARow from to ls → from ≤ to
row_rises from to [] r = omega (arith, r)
row_rises from to (l ∷ ls) r = let h = row_rises l.next to ls r.2 in omega (arith, r.0, r.1, h)

next_within : (from to : ℕ) (ls : List Line) → AreInARow from to ls → (from ≤ next_header to ls) × (next_header to ls ≤ to)
next_within from to [] r = (omega (arith, r), omega arith)
next_within from to (l ∷ ls) r = at (is_header (kind l.bytes)) (next_within l.next to ls r.2)
  where
    at : (b : Bool) → (l.next ≤ next_header to ls) × (next_header to ls ≤ to) → (from ≤ (if b then l.from else next_header to ls)) × ((if b then l.from else next_header to ls) ≤ to)
    at true h = (omega (arith, r.0), let g = row_rises l.next to ls r.2 in omega (arith, r.0, r.1, g))
    at false h = (omega (arith, r.0, r.1, h.0), h.1)

behind_line : (from to : ℕ) (ls : List Line) (k : ℕ) (l : Line) → AreInARow from to ls → slice_get ls k ≡ Some l → (l.next ≤ next_header to (drop (suc k) ls)) × (next_header to (drop (suc k) ls) ≤ to)
behind_line from to [] k l r e = absurd (cc)
behind_line from to (x ∷ ls) zero l r e = subst (λ (y : Line). (y.next ≤ next_header to ls) × (next_header to ls ≤ to)) (same_line x l e) (next_within x.next to ls r.2)
  where
    same_line : (a b : Line) → Some a ≡ Some b → a ≡ b
    same_line a b p = cc
behind_line from to (x ∷ ls) (suc k) l r e = behind_line x.next to ls k l r.2 e

pub place_within : (job : List ℕ) (found : Sections) (s : Section) (p : Span) → AreSections job found → place_of s found ≡ Some p → (p.from ≤ p.to) × (p.to ≤ length job)
place_within job found s p a e = at (subst (IsPlaceOf (lines_of job) (length job) s) e (a.places s))
  where
    at : IsPlaceOf (lines_of job) (length job) s (Some p) → (p.from ≤ p.to) × (p.to ≤ length job)
    at h =
        let w = behind_line 0 (length job) (lines_of job) h.0 h.1 (row_of job) h.2 in
        (omega (arith, w.0, h.4, h.5), omega (arith, w.1, h.5))

-- the same for a section that may be absent
pub place_fits : (job : List ℕ) (found : Sections) (s : Section) → AreSections job found → IfSome (place_of s found) (λ (p : Span). (p.from ≤ p.to) × (p.to ≤ length job))
place_fits job found s a = by (place_of s found) refl
  where
    by : (o : Option Span) → place_of s found ≡ o → IfSome o (λ (p : Span). (p.from ≤ p.to) × (p.to ≤ length job))
    by None e = tt
    by (Some p) e = place_within job found s p a e

row_long : (from to : ℕ) (ls : List Line) → AreInARow from to ls → from + length ls ≤ to
row_long from to [] r = omega (arith, r)
row_long from to (l ∷ ls) r = let h = row_long l.next to ls r.2 in omega (arith, r.0, r.1, h)

pub lines_within : (job : List ℕ) (found : Sections) → AreSections job found → found.lines ≤ length job
lines_within job found a = let h = row_long 0 (length job) (lines_of job) (row_of job) in omega (arith, a.lines, h)

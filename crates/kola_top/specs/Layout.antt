-- The layout of a job: its lines, what each line is, which line is faulty, and where the text of each section lies.
use Rattle.std.specs.Prelude.{◌≡◌, ℕ, suc, ◌+◌, ◌-◌, ◌<◌, ◌≤◌, ◌==◌, nat_eq, Bool, true, false, ◌||◌, List, [], ◌∷◌, length, take, drop, Option, Some, None, map, codes, if◌then◌else◌}
use Rattle.std.specs.List.{slice_get, slice_split, list_all, suffix_len, starts_with}
use Rattle.std.specs.Str.{bytes_eq}
use Rattle.std.specs.Str.Lines.{strip_carriage_return}
use Rattle.kola_top.specs.declared.section.Section.{Section}
use Rattle.kola_top.specs.declared.section.Section.TheVariants.{Schema, Database, Rules, Query}
use Rattle.kola_top.specs.declared.lines.Kind.{Kind}
use Rattle.kola_top.specs.declared.lines.Kind.TheVariants.{Blank, Text, Unknown, Header}
use Rattle.kola_top.specs.declared.section.Span.{Span}
use Rattle.kola_top.specs.declared.section.Sections.{Sections}
use Rattle.kola_top.specs.declared.layout.LayoutFault.{LayoutFault}
use Rattle.kola_top.specs.declared.layout.LayoutWhy.{LayoutWhy}
use Rattle.kola_top.specs.declared.layout.LayoutWhy.TheVariants.{TextBefore, UnknownSection, SectionOutOfOrder}

-- a line: its bytes without its ending, where it begins, and where the next line begins
pub record Line : Type 0 where
  pub bytes : List ℕ
  pub from : ℕ
  pub next : ℕ

-- the lines of the parts between line feeds, of which the first part begins at a place: an empty last part is no line, and each part before a line feed is one, less a carriage return at its end
abbrev pub lines_at : ℕ → List (List ℕ) → List Line
lines_at at [] = []
lines_at at (x ∷ []) = if length x == 0 then [] else (record { bytes = x; from = at; next = at + length x } ∷ [])
lines_at at (x ∷ y ∷ more) = record { bytes = strip_carriage_return x; from = at; next = at + length x + 1 } ∷ lines_at (at + length x + 1) (y ∷ more)

-- the lines of a text that begins at a place
unfoldable pub lines_from : ℕ → List ℕ → List Line
lines_from at text = lines_at at (slice_split (λ b. b == 10) text)

-- the lines of a job
abbrev pub lines_of : List ℕ → List Line
lines_of job = lines_from 0 job

-- the lines lie one behind another, from one place up to another
abbrev pub AreInARow : ℕ → ℕ → List Line → Type 0
AreInARow from to [] = from ≡ to
AreInARow from to (l ∷ ls) = (l.from ≡ from) × (l.from < l.next) × AreInARow l.next to ls

-- a space or a tab
abbrev pub is_blank : ℕ → Bool
is_blank b = (b == 32) || (b == 9)

-- the bytes less the blanks at their end
unfoldable pub trim_blanks : List ℕ → List ℕ
trim_blanks bytes = take (length bytes - suffix_len is_blank bytes) bytes

-- the section that a header names
unfoldable pub section_of : List ℕ → Option Section
section_of header =
    if bytes_eq header (codes "%% schema") then Some Schema
    else if bytes_eq header (codes "%% database") then Some Database
    else if bytes_eq header (codes "%% rules") then Some Rules
    else if bytes_eq header (codes "%% query") then Some Query
    else None

-- the section's place among the sections
abbrev pub order : Section → ℕ
order Schema = 0
order Database = 1
order Rules = 2
order Query = 3

abbrev pub header_kind : Option Section → Kind
header_kind (Some s) = Header s
header_kind None = Unknown

-- what a line with these bytes is
unfoldable pub kind : List ℕ → Kind
kind bytes =
    if starts_with nat_eq bytes (codes "%%") then header_kind (section_of (trim_blanks bytes))
    else if list_all is_blank bytes then Blank
    else Text

-- what each of the lines is
abbrev pub kinds : List Line → List Kind
kinds ls = map (λ (l : Line). kind l.bytes) ls

-- the line at a place of the list is faulty, and why: places are counted from 0
abbrev pub IsFaulty : List Kind → ℕ → LayoutWhy → Type 0
IsFaulty ks k TextBefore = (slice_get ks k ≡ Some Text) × ((j : ℕ) (s : Section) → j < k → slice_get ks j ≡ Some (Header s) → ⊥)
IsFaulty ks k UnknownSection = slice_get ks k ≡ Some Unknown
IsFaulty ks k SectionOutOfOrder = (s : Section) × (slice_get ks k ≡ Some (Header s)) × ((j : ℕ) × (t : Section) × (j < k) × (slice_get ks j ≡ Some (Header t)) × (order s ≤ order t))

-- no line is faulty
abbrev pub IsFaultless : List Kind → Type 0
IsFaultless ks = (k : ℕ) (why : LayoutWhy) → IsFaulty ks k why → ⊥

-- the first faulty line, counted from 1, and why it is faulty
pub record IsFirstFault (ks : List Kind) (fault : LayoutFault) : Type 0 where
  pub at : ℕ
  pub line : fault.line ≡ at + 1
  pub faulty : IsFaulty ks at fault.why
  pub first : (k : ℕ) (why : LayoutWhy) → k < at → IsFaulty ks k why → ⊥

abbrev pub is_header : Kind → Bool
is_header (Header s) = true
is_header _ = false

-- where the first header of the lines begins, or the end where they have none
abbrev pub next_header : ℕ → List Line → ℕ
next_header end [] = end
next_header end (l ∷ ls) = if is_header (kind l.bytes) then l.from else next_header end ls

-- where the text of a section lies: from the line after its header up to the next header or to the end of the job
abbrev pub IsPlaceOf : List Line → ℕ → Section → Option Span → Type 0
IsPlaceOf ls end s None = (k : ℕ) → slice_get (kinds ls) k ≡ Some (Header s) → ⊥
IsPlaceOf ls end s (Some p) = (k : ℕ) × (l : Line) × (slice_get ls k ≡ Some l) × (kind l.bytes ≡ Header s) × (p.from ≡ l.next) × (p.to ≡ next_header end (drop (suc k) ls))

-- the place of a section among those that were found
abbrev pub place_of : Section → Sections → Option Span
place_of Schema found = found.schema
place_of Database found = found.database
place_of Rules found = found.rules
place_of Query found = found.query

-- what is found in a job without a faulty line
pub record AreSections (job : List ℕ) (found : Sections) : Type 0 where
  pub faultless : IsFaultless (kinds (lines_of job))
  pub places : (s : Section) → IsPlaceOf (lines_of job) (length job) s (place_of s found)
  pub lines : found.lines ≡ length (lines_of job)

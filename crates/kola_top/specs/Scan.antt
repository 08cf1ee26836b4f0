-- How a job is gone through, one line after another. What comes of it is said in Layout.antt, of all lines at once.
use Rattle.std.specs.Prelude.{ℕ, ◌+◌, nat_lt, List, [], ◌∷◌, Option, Some, None, Result, Ok, Err, if◌then◌else◌}
use Rattle.kola_top.specs.declared.section.Section.{Section}
use Rattle.kola_top.specs.declared.section.Section.TheVariants.{Schema, Database, Rules, Query}
use Rattle.kola_top.specs.declared.lines.Kind.{Kind}
use Rattle.kola_top.specs.declared.lines.Kind.TheVariants.{Blank, Text, Unknown, Header}
use Rattle.kola_top.specs.declared.section.Span.{Span}
use Rattle.kola_top.specs.declared.section.Sections.{Sections}
use Rattle.kola_top.specs.declared.layout.Opened.{Opened}
use Rattle.kola_top.specs.declared.layout.Progress.{Progress}
use Rattle.kola_top.specs.declared.layout.LayoutFault.{LayoutFault}
use Rattle.kola_top.specs.declared.layout.LayoutWhy.{LayoutWhy}
use Rattle.kola_top.specs.declared.layout.LayoutWhy.TheVariants.{TextBefore, UnknownSection, SectionOutOfOrder}
use Rattle.kola_top.specs.Layout.{Line, kind, order}

abbrev pub put : Section → Span → Sections → Sections
put Schema p found = record found { schema = Some p }
put Database p found = record found { database = Some p }
put Rules p found = record found { rules = Some p }
put Query p found = record found { query = Some p }

abbrev pub put_opened : Option Opened → ℕ → Sections → Sections
put_opened None to found = found
put_opened (Some o) to found = put o.section (record { from = o.from; to = to }) found

-- what was found, where the section that is open ends at a place
abbrev pub closed : ℕ → Progress → Sections
closed to p = put_opened p.opened to p.found

-- the least place in the order that a next header may have
abbrev pub least_order : Option Opened → ℕ
least_order None = 0
least_order (Some o) = order o.section + 1

-- the line that was counted last is faulty
abbrev pub refused : Progress → LayoutWhy → Result Progress LayoutFault
refused p why = Err (record { line = p.found.lines; why = why })

abbrev pub read_text : Option Opened → Progress → Result Progress LayoutFault
read_text None p = refused p TextBefore
read_text (Some o) p = Ok p

abbrev pub read_header : Section → Line → Progress → Result Progress LayoutFault
read_header s l p =
    if nat_lt (order s) (least_order p.opened) then refused p SectionOutOfOrder
    else Ok (record { found = closed l.from p; opened = Some (record { section = s; from = l.next }) })

abbrev pub read_kind : Kind → Line → Progress → Result Progress LayoutFault
read_kind Blank l p = Ok p
read_kind Text l p = read_text p.opened p
read_kind Unknown l p = refused p UnknownSection
read_kind (Header s) l p = read_header s l p

abbrev pub counted : Progress → Progress
counted p = record p { found = record p.found { lines = p.found.lines + 1 } }

-- what is known after one more line
unfoldable pub read : Line → Progress → Result Progress LayoutFault
read l p = read_kind (kind l.bytes) l (counted p)

abbrev pub go_on : Result Progress LayoutFault → (Progress → Result Sections LayoutFault) → Result Sections LayoutFault
go_on (Ok p) f = f p
go_on (Err e) f = Err e

-- what is found after all of the lines, or the first that is refused
unfoldable pub walk : ℕ → List Line → Progress → Result Sections LayoutFault
walk end [] p = Ok (closed end p)
walk end (l ∷ ls) p = go_on (read l p) (walk end ls)

abbrev pub start : Progress
start = record { found = record { schema = None; database = None; rules = None; query = None; lines = 0 }; opened = None }

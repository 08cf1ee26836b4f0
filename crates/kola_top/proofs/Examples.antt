-- Layouts of small jobs, computed.
use Rattle.std.proofs.Common.{◌≡◌, [], ◌∷◌, refl}
use Rattle.std.specs.Prelude.{codes}
use Rattle.kola_top.specs.declared.section.Section.TheVariants.{Rules, Query}
use Rattle.kola_top.specs.declared.lines.Kind.TheVariants.{Blank, Text, Unknown, Header}
use Rattle.kola_top.specs.Layout.{lines_of, lines_from, kind, kinds, trim_blanks, section_of, next_header}

-- the empty job has no line, and a last line needs no line feed
empty_job : lines_of [] ≡ []
unfolding lines_from
empty_job = refl

one_line : lines_of (codes "a\n") ≡ record { bytes = codes "a"; from = 0; next = 2 } ∷ []
unfolding lines_from
one_line = refl

-- one carriage return before a line feed belongs to the ending, and none at the end of the job does
returns_in_lines : lines_of (codes "\r\r\n\rb\r") ≡ record { bytes = codes "\r"; from = 0; next = 3 } ∷ record { bytes = codes "\rb\r"; from = 3; next = 6 } ∷ []
unfolding lines_from
returns_in_lines = refl

header_with_blanks : kind (codes "%% query \t") ≡ Header Query
unfolding kind trim_blanks section_of
header_with_blanks = refl

header_of_rules : kind (codes "%% rules") ≡ Header Rules
unfolding kind trim_blanks section_of
header_of_rules = refl

no_header : kinds (lines_of (codes " \t\n\n %% query\n%%query\n%% Query\n%% query x")) ≡ Blank ∷ Blank ∷ Text ∷ Unknown ∷ Unknown ∷ Unknown ∷ []
unfolding lines_from kind trim_blanks section_of
no_header = refl

-- the text of a section ends where the next header begins, or with the job
text_to_header : next_header 14 (lines_of (codes "x\n%% query\ny\n")) ≡ 2
unfolding lines_from kind trim_blanks section_of
text_to_header = refl

text_to_end : next_header 4 (lines_of (codes "x\ny\n")) ≡ 4
unfolding lines_from kind trim_blanks section_of
text_to_end = refl

-- The answer to the empty job, to one without a query, and to one without rules.
use Rattle.std.proofs.Common.{ℕ, [], ◌∷◌, None, Ok, refl, arith}
use Rattle.std.specs.Prelude.{codes}
use Rattle.kola_top.specs.declared.section.Sections.{Sections}
use Rattle.kola_top.specs.declared.words.Action.TheVariants.{Check, Run}
use Rattle.kola_top.specs.declared.section.Section.TheVariants.{Rules, Query}
use Rattle.kola_top.specs.declared.status.Status.TheVariants as statuses
use Rattle.kola_top.specs.Layout.{lines_from, kind, trim_blanks, section_of}
use Rattle.kola_top.specs.Scan.{walk, read}
use Rattle.kola_top.specs.FaultLines.{missing_line, usage_line}
use Rattle.kola_top.specs.Answer.{Answer, usage, missing}
use Rattle.kola_top.proofs.FoundLaws.{walk_is}

abbrev no_section : ℕ → Sections
no_section lines = record { schema = None; database = None; rules = None; query = None; lines = lines }

empty_job : Answer (codes "run" ∷ []) [] statuses.Layout (missing_line 1 Query)
unfolding walk lines_from
empty_job = missing Run (record { before = record { command = refl; is_short = omega arith }; found = no_section 0; sections = walk_is [] (Ok (no_section 0)) refl }) refl

blank_job : Answer (codes "run" ∷ []) (codes " \n\t") statuses.Layout (missing_line 3 Query)
unfolding walk lines_from read kind trim_blanks section_of
blank_job = missing Run (record { before = record { command = refl; is_short = omega arith }; found = no_section 2; sections = walk_is (codes " \n\t") (Ok (no_section 2)) refl }) refl

-- rules are what `check` needs
no_rules : Answer (codes "check" ∷ []) (codes " \n\t") statuses.Layout (missing_line 3 Rules)
unfolding walk lines_from read kind trim_blanks section_of
no_rules = missing Check (record { before = record { command = refl; is_short = omega arith }; found = no_section 2; sections = walk_is (codes " \n\t") (Ok (no_section 2)) refl }) refl

no_action : Answer (codes "fly" ∷ []) (codes "x") statuses.Usage usage_line
no_action = usage refl

-- Queries with their reports, and lines of refusals, computed.
use Rattle.std.proofs.Common.{◌≡◌, pos, [], ◌∷◌, Some, None, refl}
use Rattle.std.specs.Prelude.{codes}
use Rattle.std.specs.Fmt.{digits}
use Rattle.std.specs.Str.Lines.{lines}
use Rattle.kola_base.specs.declared.lex.LexWhy.TheVariants.{NumberTooLarge}
use Rattle.kola_values.specs.Order.{same}
use Rattle.kola_values.specs.Sets.{any, all, set_of}
use Rattle.kola_term.proofs.Sample.{sample_schema, sample_database}
use Rattle.oql_tree.specs.QueryTrees.{LitInt, QueryTree, QName, QLiteral, QSetOf, QPath, QStruct, QCompare, QSelect, NoFields, QField, NoRanges, QRange, NoWhere, Where}
use Rattle.oql_tree.specs.declared.query.Sign.TheVariants as sign
use Rattle.oql_syntax.specs.QueryFaults.{CLex, CUnexpected, CTooDeep, CNotInProfile}
use Rattle.kola_top.specs.declared.layout.LayoutWhy.TheVariants.{UnknownSection}
use Rattle.kola_top.specs.declared.words.Action.TheVariants.{Check, Run}
use Rattle.kola_top.specs.declared.section.Section.TheVariants.{Rules, Query}
use Rattle.kola_top.specs.Words.{action_of}
use Rattle.kola_top.specs.Stages.{visit_limit}
use Rattle.kola_top.specs.FaultLines.{layout_fault_line, missing_line, query_fault_line, visits_line}
use Rattle.kola_top.specs.Report.{report_text}
use Rattle.kola_top.specs.Answer.{report_of_run}

-- select distinct x from x in set(3, 1, 2, 3) where x < 3
abbrev below_three : QueryTree
below_three =
    QSelect 0 (QName 16 (codes "x"))
    (QRange (codes "x") 23 (QSetOf 28 ((LitInt (pos 3), 32) ∷ (LitInt (pos 1), 35) ∷ (LitInt (pos 2), 38) ∷ (LitInt (pos 3), 41) ∷ [])) NoRanges)
    (Where 44 (QCompare 52 sign.Lt (QName 50 (codes "x")) (QLiteral 54 (LitInt (pos 3)))))

-- select distinct struct(v: v, owners: (select distinct p from p in Persons where v in p.cars)) from v in Vehicles
abbrev owners : QueryTree
owners =
    QSelect 0
    (QStruct 16 (QField (codes "v") 23 (QName 26 (codes "v"))
    (QField (codes "owners") 29
    (QSelect 38 (QName 54 (codes "p")) (QRange (codes "p") 61 (QName 66 (codes "Persons")) NoRanges)
    (Where 74 (QCompare 82 sign.Member (QName 80 (codes "v")) (QPath 87 (QName 85 (codes "p")) ((codes "cars", 87) ∷ [])))))
    NoFields)))
    (QRange (codes "v") 99 (QName 104 (codes "Vehicles")) NoRanges) NoWhere

report_below : lines (report_text (report_of_run [] [] below_three))
    ≡ codes "query: (iter((lt @ <snd, K(3)>), snd) o <id, K({1, 2, 3})>)" ∷ codes "block: -" ∷ codes "plan: (iter((lt @ <snd, K(3)>), snd) o <id, K({1, 2, 3})>)"
    ∷ codes "outcome: done" ∷ codes "ok: true" ∷ codes "firings: 0" ∷ codes "steps: 1" ∷ codes "visits: 3" ∷ codes "result: {1, 2}" ∷ []
unfolding same any all set_of digits
report_below = refl

-- each vehicle, and for each of them each person
report_owners : lines (report_text (report_of_run sample_schema sample_database owners))
    ≡ codes "query: (iter(KP(true), <snd, (iter((in @ <(snd o fst), (.cars o snd)>), snd) o <id, K(Persons)>)>) o <id, K(Vehicles)>)" ∷ codes "block: -"
    ∷ codes "plan: (iter(KP(true), <snd, (iter((in @ <(snd o fst), (.cars o snd)>), snd) o <id, K(Persons)>)>) o <id, K(Vehicles)>)"
    ∷ codes "outcome: done" ∷ codes "ok: true" ∷ codes "firings: 0" ∷ codes "steps: 1" ∷ codes "visits: 6"
    ∷ codes "result: {struct(v: Vehicle#1, owners: {Person#1, Person#2}), struct(v: Vehicle#2, owners: {})}" ∷ []
unfolding same any all set_of digits
report_owners = refl

runs : action_of (codes "run" ∷ []) ≡ Some Run
runs = refl

checks : action_of (codes "check" ∷ []) ≡ Some Check
checks = refl

runs_nothing : action_of (codes "run" ∷ codes "run" ∷ []) ≡ None
runs_nothing = refl

unknown_section : layout_fault_line (record { line = 12; why = UnknownSection }) ≡ codes "fault: layout line 12: UnknownSection\n"
unfolding digits
unknown_section = refl

missing_query : missing_line 1 Query ≡ codes "fault: layout line 1: SectionMissing query\n"
unfolding digits
missing_query = refl

missing_rules : missing_line 7 Rules ≡ codes "fault: layout line 7: SectionMissing rules\n"
unfolding digits
missing_rules = refl

too_many_visits : visits_line visit_limit ≡ codes "fault: visits passed 5000000\n"
unfolding digits
too_many_visits = refl

lexical_fault : query_fault_line 32 (CLex NumberTooLarge) ≡ codes "fault: query at 32: NumberTooLarge\n"
unfolding digits
lexical_fault = refl

unexpected : query_fault_line 44 CUnexpected ≡ codes "fault: query at 44: Unexpected\n"
unfolding digits
unexpected = refl

too_deep : query_fault_line 100 CTooDeep ≡ codes "fault: query at 100: TooDeep\n"
unfolding digits
too_deep = refl

not_in_profile : query_fault_line 41 (CNotInProfile (codes "ORDER")) ≡ codes "fault: query at 41: NotInProfile ORDER\n"
unfolding digits
not_in_profile = refl

-- The line that each refusal writes: a cause is its name, with its fields behind it, each behind one blank.
use Rattle.std.specs.Prelude.{ℕ, List, [], ◌++◌, codes}
use Rattle.std.specs.Fmt.{decimal}
use Rattle.kola_canon.specs.Spelling.{quoted}
use Rattle.kola_load.specs.declared.fault.DbFault.{DbFault}
use Rattle.kola_load.specs.declared.fault.DbFault.TheVariants as db
use Rattle.kola_load.specs.declared.schema_fault.SchemaWhy.{SchemaWhy}
use Rattle.kola_load.specs.CauseNames.{schema_name, db_name}
use Rattle.oql_syntax.specs.QueryFaults.{QueryCause, CNotInProfile}
use Rattle.oql_syntax.specs.QueryAnswers.{cause_name}
use Rattle.oql_check.specs.CheckAnswers.{check_name}
use Rattle.oql_check.specs.declared.fault.CheckWhy.{CheckWhy}
use Rattle.kola_base.specs.declared.text_fault.TextWhy.{TextWhy}
use Rattle.kola_base.specs.CauseNames.{text_name}
use Rattle.kola_proof.specs.declared.fault.StepWhy.{StepWhy}
use Rattle.kola_proof.specs.CauseNames.{step_name}
use Rattle.kola_top.specs.declared.section.Section.{Section}
use Rattle.kola_top.specs.declared.section.Section.TheVariants as sections
use Rattle.kola_top.specs.declared.layout.LayoutFault.{LayoutFault}
use Rattle.kola_top.specs.declared.layout.LayoutWhy.{LayoutWhy}
use Rattle.kola_top.specs.declared.layout.LayoutWhy.TheVariants.{TextBefore, UnknownSection, SectionOutOfOrder}

abbrev pub usage_line : List ℕ
usage_line = codes "usage: kola check|translate|plan|optimize|run|gen [NUMBER] [--block NAME] [--budget N] [--visits N]\n"

abbrev pub too_long_line : List ℕ
too_long_line = codes "fault: job too long\n"

abbrev pub layout_cause : LayoutWhy → List ℕ
layout_cause TextBefore = codes "TextBefore"
layout_cause UnknownSection = codes "UnknownSection"
layout_cause SectionOutOfOrder = codes "SectionOutOfOrder"

-- the line of the job, counted from 1, and the cause
abbrev pub layout_line : ℕ → List ℕ → List ℕ
layout_line line cause = codes "fault: layout line " ++ (decimal line ++ (codes ": " ++ (cause ++ codes "\n")))

abbrev pub layout_fault_line : LayoutFault → List ℕ
layout_fault_line fault = layout_line fault.line (layout_cause fault.why)

abbrev pub section_name : Section → List ℕ
section_name sections.Schema = codes "schema"
section_name sections.Database = codes "database"
section_name sections.Rules = codes "rules"
section_name sections.Query = codes "query"

-- a section that is needed would stand in this line, behind the last
abbrev pub missing_line : ℕ → Section → List ℕ
missing_line line section = layout_line line (codes "SectionMissing " ++ section_name section)

-- ---- fields

abbrev pub name_field : List ℕ → List ℕ
name_field n = codes " " ++ n

-- a name that is none of the schema's is a canonical string
abbrev pub text_field : List ℕ → List ℕ
text_field t = codes " " ++ quoted t

abbrev pub number_field : ℕ → List ℕ
number_field n = codes " " ++ decimal n

-- ---- schemas

-- the place in the schema's text, and the cause
abbrev pub schema_line : ℕ → SchemaWhy → List ℕ
schema_line at why = codes "fault: schema at " ++ (decimal at ++ (codes ": " ++ (schema_name why ++ codes "\n")))

-- ---- rules

-- the place in the text of the rules, and the cause
abbrev pub rules_line : ℕ → TextWhy → List ℕ
rules_line at why = codes "fault: rules at " ++ (decimal at ++ (codes ": " ++ (text_name why ++ codes "\n")))

-- the name of the rule, the number of the step, counted from 1, or 0, and the cause
abbrev pub rule_line : List ℕ → ℕ → StepWhy → List ℕ
rule_line name step why = codes "fault: rule " ++ (name ++ (codes " step " ++ (decimal step ++ (codes ": " ++ (step_name why ++ codes "\n")))))

-- ---- queries

-- the place in the query's text, and the cause
abbrev pub query_line : ℕ → List ℕ → List ℕ
query_line at cause = codes "fault: query at " ++ (decimal at ++ (codes ": " ++ (cause ++ codes "\n")))

abbrev pub query_cause : QueryCause → List ℕ
query_cause (CNotInProfile word) = cause_name (CNotInProfile word) ++ name_field word
query_cause cause = cause_name cause

-- a text that spells no query
abbrev pub query_fault_line : ℕ → QueryCause → List ℕ
query_fault_line at cause = query_line at (query_cause cause)

-- a query that has no type
abbrev pub query_type_line : ℕ → CheckWhy → List ℕ
query_type_line at why = query_line at (check_name why)

-- a query whose term is larger than a term may be
abbrev pub too_large_line : List ℕ
too_large_line = codes "fault: term too large\n"

-- a query whose term would visit more members than it may
abbrev pub visits_line : ℕ → List ℕ
visits_line limit = codes "fault: visits passed " ++ (decimal limit ++ codes "\n")

-- ---- databases

-- a class or extent and a number
abbrev pub at_number : List ℕ → ℕ → List ℕ
at_number name number = name_field name ++ number_field number

abbrev pub database_fields : DbFault → List ℕ
database_fields db.NotJson = []
database_fields db.NotObject = []
database_fields (db.UnknownExtent name) = text_field name
database_fields (db.NotAnArray extent) = name_field extent
database_fields (db.NotAnObject extent index) = at_number extent index
database_fields (db.BadId extent index) = at_number extent index
database_fields (db.TwiceId extent id) = at_number extent id
database_fields (db.UnknownAttribute class id name) = at_number class id ++ text_field name
database_fields (db.MissingAttribute class id name) = at_number class id ++ name_field name
database_fields (db.WrongType class id name) = at_number class id ++ name_field name
database_fields (db.NoSuchObject class id name target) = at_number class id ++ (name_field name ++ number_field target)
database_fields (db.KeyRepeats class key first second) = at_number class key ++ (number_field first ++ number_field second)
database_fields db.Memory = []

abbrev pub database_line : DbFault → List ℕ
database_line fault = codes "fault: database: " ++ (db_name fault ++ (database_fields fault ++ codes "\n"))

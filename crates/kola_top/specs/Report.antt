-- What `check`, `translate` and `run` write where nothing is refused.
use Rattle.std.specs.Prelude.{ℕ, Bool, true, false, List, ◌++◌, length, codes}
use Rattle.std.specs.List.{flat_map}
use Rattle.std.specs.Fmt.{decimal}

-- a name, a colon, a blank and what it says
abbrev pub report_line : List ℕ → List ℕ → List ℕ
report_line name says = name ++ (codes ": " ++ (says ++ codes "\n"))

-- ---- check

abbrev pub accepted_line : List ℕ → List ℕ
accepted_line name = codes "rule " ++ (name ++ codes " ok\n")

-- a line for each rule, in their order, and the numbers of the rules and of the blocks
abbrev pub check_text : List (List ℕ) → ℕ → List ℕ
check_text names blocks = flat_map accepted_line names ++ (report_line (codes "rules") (decimal (length names)) ++ report_line (codes "blocks") (decimal blocks))

-- ---- translate

-- a line for the term and one for the query's type
abbrev pub translate_text : List ℕ → List ℕ → List ℕ
translate_text term query_type = report_line (codes "query") term ++ report_line (codes "type") query_type

-- ---- run

-- what each of nine lines says
pub record Report : Type 0 where
  pub query : List ℕ
  pub block : List ℕ
  pub plan : List ℕ
  pub outcome : List ℕ
  pub ok : Bool
  pub firings : ℕ
  pub steps : ℕ
  pub visits : ℕ
  pub result : List ℕ

abbrev pub truth_text : Bool → List ℕ
truth_text true = codes "true"
truth_text false = codes "false"

abbrev pub report_text : Report → List ℕ
report_text r =
    report_line (codes "query") r.query
    ++ (report_line (codes "block") r.block
    ++ (report_line (codes "plan") r.plan
    ++ (report_line (codes "outcome") r.outcome
    ++ (report_line (codes "ok") (truth_text r.ok)
    ++ (report_line (codes "firings") (decimal r.firings)
    ++ (report_line (codes "steps") (decimal r.steps)
    ++ (report_line (codes "visits") (decimal r.visits)
    ++ report_line (codes "result") r.result)))))))

use Rattle.std.proofs.Common.{◌≡◌, map, drop}
use Rattle.oql_tree.specs.QueryViews.{lit_tree, literal_entry}
use Rattle.oql_check.specs.QueryTypes.{alike}
use Rattle.oql_check.specs.Checking.{literal_form}
use Rattle.oql_check.proofs.literal.all_alike.Given as goal

abbrev pub invariant-loop-literal : goal.invariant-loop-literal
invariant-loop-literal l = alike (literal_form (lit_tree l.first)) (map literal_entry l.others) ≡ alike (literal_form (lit_tree l.first)) (drop l.literal-index (map literal_entry l.others))

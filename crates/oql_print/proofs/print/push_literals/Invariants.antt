use Rattle.std.proofs.Common.{◌≡◌, ◌++◌, take}
use Rattle.std.specs.List.{flat_map}
use Rattle.oql_tree.specs.QueryViews.{literal_entries}
use Rattle.oql_print.specs.QuerySpelling.{further_literal}
use Rattle.oql_print.proofs.print.push_literals.Given as goal

abbrev pub invariant-loop-literal : goal.invariant-loop-literal
invariant-loop-literal l = l.out.items ≡ l.initial.out.items ++ flat_map further_literal (take l.literal-index (literal_entries l.others))

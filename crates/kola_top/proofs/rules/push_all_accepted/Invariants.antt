use Rattle.std.proofs.Common.{◌≡◌, ◌++◌}
use Rattle.std.specs.List.{flat_map}
use Rattle.kola_top.specs.Report.{accepted_line}
use Rattle.kola_top.specs.RulesViews.{names_behind}
use Rattle.kola_top.proofs.rules.push_all_accepted.Given as goal

abbrev pub invariant-loop-place : goal.invariant-loop-place
invariant-loop-place l = l.out.items ++ flat_map accepted_line (names_behind l.place l.rules) ≡ l.initial.out.items ++ flat_map accepted_line (names_behind l.from l.rules)

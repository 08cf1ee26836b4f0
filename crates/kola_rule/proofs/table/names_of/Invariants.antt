use Rattle.std.proofs.Common.{◌≡◌, map, take}
use Rattle.kola_rule.proofs.table.names_of.Given as goal

abbrev pub invariant-loop-rule : goal.invariant-loop-rule
invariant-loop-rule l = l.names ≡ take l.rule-index (map (λ r. r.name) l.rules)

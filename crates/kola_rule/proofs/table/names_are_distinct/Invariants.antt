use Rattle.std.proofs.Common.{◌≡◌, true, take}
use Rattle.kola_schema.specs.Schemas.{are_distinct}
use Rattle.kola_rule.specs.Tables.{rule_names}
use Rattle.kola_rule.proofs.table.names_are_distinct.Given as goal

abbrev pub invariant-loop-rule : goal.invariant-loop-rule
invariant-loop-rule l = (l.names ≡ take l.rule-index (rule_names l.rules)) × (are_distinct (take l.rule-index (rule_names l.rules)) ≡ true)

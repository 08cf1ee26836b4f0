use Rattle.kola_values.specs.Views.{type_tree}
use Rattle.kola_values.specs.Models.Weights.{type_weight}
use Rattle.kola_bench.proofs.rule_text.+push_rule_type.Given as goal

abbrev pub decreases-push_rule_type : goal.decreases-push_rule_type
decreases-push_rule_type l = type_weight (type_tree l.t.now)

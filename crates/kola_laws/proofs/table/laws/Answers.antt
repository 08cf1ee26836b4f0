use Rattle.std.proofs.Common.{map, ap}
use Rattle.kola_rule.specs.RuleViews.{rule_tree}
use Rattle.kola_laws.proofs.Names.{names_apart}
use Rattle.kola_laws.proofs.table.laws.Goals as goal

pub from_rules-requires : goal.from_rules-requires
from_rules-requires c = names_apart _ (c.in_ok-add_laws.ensures (ap (map rule_tree) c.new-rules.ensures.items))

use Rattle.std.proofs.Common.{is_some, ap, ◌∙◌}
use Rattle.kola_core.specs.NameLists.{is_listed}
use Rattle.kola_rule.specs.Tables.{rule_names}
use Rattle.kola_rule.proofs.Names.{placed}
use Rattle.kola_rule.proofs.table.RuleTable.find.Goals as goal

pub returns-clause-listed : goal.returns-clause-listed
returns-clause-listed c =
    let names = c.self.invariant.0 ∙ ap rule_names c.self.view_is in
    ap is_some c.place.ensures
    ∙ placed c.as_text.result.now c.self.inside.names
    ∙ (λ i. is_listed (c.as_text.ensures.text i) (names i))

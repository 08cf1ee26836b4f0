use Rattle.std.proofs.Common.{◌≡◌, map, subst}
use Rattle.std.specs.Prelude.{IfOk}
use Rattle.kola_rule.specs.RuleViews.{rule_tree}
use Rattle.kola_laws.specs.Laws.{laws}
use Rattle.kola_proof.proofs.Kept.{laws_accepted}
use Rattle.kola_proof.proofs.accepted.Accepted.start.Goals as goal

pub invariant_of-result : goal.invariant_of-result
invariant_of-result c = laws_accepted c.args.schema (map rule_tree c.in-Ok.rules) (subst (λ r. IfOk r (λ t. map rule_tree t ≡ laws)) c.in-Ok.is c.laws.ensures)

use Rattle.std.proofs.Common.{◌∙◌}
use Rattle.kola_rule.specs.RuleViews.{rule_tree}
use Rattle.kola_match.specs.Instances.{pattern_side, other_side}
use Rattle.kola_term.specs.Parts.{sub_tree}
use Rattle.coko_plan.proofs.Seeing.{all_stand}
use Rattle.coko_plan.proofs.firing.can_fire.Goals as goal

pub returns : goal.returns
returns c =
    let r = rule_tree c.args.rule.now in
    c.all_seen.ensures
    ∙ all_stand c.new.result c.new-2.result c.new-3.result c.see.new.seen (sub_tree c.sides.result.0) (sub_tree c.sides.result.1) (pattern_side r c.args.rev) (other_side r c.args.rev) c.new.ensures c.new-2.ensures c.new-3.ensures c.in_ok-see.ensures c.sides.ensures.pattern c.sides.ensures.other

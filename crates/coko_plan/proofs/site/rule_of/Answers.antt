use Rattle.std.proofs.Common.{subst, sym, ◌∙◌}
use Rattle.coko_plan.specs.Working.Sites.{onwards_of, StopTells}
use Rattle.coko_plan.proofs.Finding.{rule_place, rule_fires, rule_cannot, rule_missing}
use Rattle.coko_plan.proofs.site.rule_of.Goals as goal

pub returns-then-fires-clause-found : goal.returns-then-fires-clause-found
returns-then-fires-clause-found c =
    let s = c.args.site.now in
    rule_place s.rules.now (onwards_of s) s.block.now c.args.name.now c.args.rev c.in-Some.place c.in-Some.ensures.place

pub returns-then-fires-clause-fits : goal.returns-then-fires-clause-fits
returns-then-fires-clause-fits c =
    let s = c.args.site.now in
    rule_fires s.rules.now (onwards_of s) s.block.now c.args.name.now c.args.rev c.in-Some.place c.in-Some.ensures.place (sym c.fires.ensures ∙ c.if-fires.true)

pub returns-else-fires-clause-stops : goal.returns-else-fires-clause-stops
returns-else-fires-clause-stops c =
    let s = c.args.site.now in
    rule_cannot s.rules.now (onwards_of s) s.block.now c.args.name.now c.args.rev c.in-Some.place c.in-Some.ensures.place (sym c.fires.ensures ∙ c.if-fires.false)

pub returns-in-None-clause-stops : goal.returns-in-None-clause-stops
returns-in-None-clause-stops c =
    let s = c.args.site.now in
    subst (StopTells s.block.now c.no_rule.result) (rule_missing s.rules.now (onwards_of s) s.block.now c.args.name.now c.args.rev c.in-None.ensures.place) c.no_rule.ensures

use Rattle.std.proofs.Common.{subst, sym}
use Rattle.coko_plan.specs.Working.Sites.{rules_of, onwards_of, StopTells}
use Rattle.coko_plan.proofs.Finding.{fault_of_block, fault_of_rule}
use Rattle.coko_plan.proofs.site.find_name.Goals as goal

pub returns-in-Some-clause-fits : goal.returns-in-Some-clause-fits
returns-in-Some-clause-fits c =
    let s = c.args.site.now in
    fault_of_block (rules_of s) (onwards_of s) s.block.now c.args.name.now c.args.rev s.names.now s.numbers.now c.in-Some.number (sym c.in-Some.ensures)

pub returns-in-Err-clause-stops : goal.returns-in-Err-clause-stops
returns-in-Err-clause-stops c =
    let s = c.args.site.now in
    subst (StopTells s.block.now c.in-Err.stop) (sym (fault_of_rule (rules_of s) (onwards_of s) s.block.now c.args.name.now c.args.rev s.names.now s.numbers.now (sym c.in-None.ensures))) c.in-Err.ensures.stops

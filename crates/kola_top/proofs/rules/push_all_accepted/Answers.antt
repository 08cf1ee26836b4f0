use Rattle.std.proofs.Common.{◌∙◌, ap, sym, arith}
use Rattle.std.specs.Option.{option_copied}
use Rattle.kola_top.proofs.RuleLines.{past_none, line_more, lines_all}
use Rattle.kola_top.proofs.rules.push_all_accepted.Goals as goal

pub loop-place-preserved : goal.loop-place-preserved
loop-place-preserved c =
    line_more c.args.rules.now c.loop-place.place c.in-Some.rule.now c.loop-place.out.items c.push_accepted.new.out.items _
    (sym c.get.ensures ∙ ap option_copied c.in-Some.is) c.in_ok-push_accepted.ensures c.loop-place.invariant

pub returns-in_default : goal.returns-in_default
returns-in_default c =
    lines_all c.args.rules.now c.loop-place.place c.loop-place.out.items _
    (past_none c.args.rules.now c.loop-place.place (sym c.get.ensures ∙ ap option_copied c.in_default.is)) c.loop-place.invariant

pub returns-after-loop-place : goal.returns-after-loop-place
returns-after-loop-place c = lines_all c.args.rules.now c.loop-place.place c.loop-place.out.items _ (omega (arith, c.loop-place-test.false, c.len-place-end.ensures)) c.loop-place.invariant

use Rattle.std.proofs.Common.{sym, ◌∙◌, arith}
use Rattle.std.proofs.lemmas.Result.{err_from_is_err_and}
use Rattle.kola_top.proofs.LineLaws.{lines_from-past}
use Rattle.kola_top.proofs.WalkLaws.{walk-goes_on, walk-stops, walk-nil, read-counts}
use Rattle.kola_top.proofs.layout.scan.Goals as goal

pub returns-in_err-progress : goal.returns-in_err-progress
returns-in_err-progress c =
    let p = err_from_is_err_and c.from_residual.result c.from_residual.ensures.1 in
    rw (p.1, p.2) (sym (walk-stops _ _ _ _ _ _ c.line_at-line.ensures.line (sym (c.in_err-progress.was) ∙ c.read.ensures)) ∙ c.loop-from.invariant.same)

pub loop-from-preserved : goal.loop-from-preserved
loop-from-preserved c =
    let r = sym (c.in_ok-progress.was) ∙ c.read.ensures in
    let n = read-counts _ _ _ r in
    record {
      within = omega arith;
      counted = omega arith;
      same = sym (walk-goes_on _ _ _ _ _ _ c.line_at-line.ensures.line r) ∙ c.loop-from.invariant.same;
    }

pub returns : goal.returns
returns c = rw c.closed.ensures (sym (walk-nil _ _ _ (lines_from-past c.args.job.now c.loop-from.from c.loop-from-test.false)) ∙ c.loop-from.invariant.same)

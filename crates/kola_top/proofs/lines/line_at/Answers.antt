use Rattle.std.proofs.Common.{sym}
use Rattle.kola_top.proofs.LineLaws.{line_with_feed, line_to_end}
use Rattle.kola_top.proofs.lines.line_at.Goals as goal

pub returns-in-Some-clause-line : goal.returns-in-Some-clause-line
returns-in-Some-clause-line c = line_with_feed c.args.job.now c.args.from c.in-Some.length _ (sym c.in-Some.ensures) c.trim_return.ensures

pub returns-in-None-clause-line : goal.returns-in-None-clause-line
returns-in-None-clause-line c = line_to_end c.args.job.now c.args.from c.requires (sym c.in-None.ensures)

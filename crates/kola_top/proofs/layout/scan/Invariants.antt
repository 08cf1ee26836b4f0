use Rattle.std.proofs.Common.{◌≡◌, ◌-◌, ◌≤◌, length, drop}
use Rattle.kola_top.specs.Layout.{lines_from, lines_of}
use Rattle.kola_top.specs.Scan.{walk, start}
use Rattle.kola_top.proofs.layout.scan.Given as goal

abbrev pub invariant-loop-from : goal.invariant-loop-from
invariant-loop-from l = record {
  within : l.from ≤ length l.job;
  counted : l.progress.found.lines ≤ l.from;
  same : walk (length l.job) (lines_from l.from (drop l.from l.job)) l.progress ≡ walk (length l.job) (lines_of l.job) start;
}

abbrev pub decreases-loop-from : goal.decreases-loop-from
decreases-loop-from l = length l.job - l.from

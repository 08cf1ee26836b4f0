use Rattle.std.proofs.Common.{◌≡◌, ◌+◌, ◌-◌, ◌≤◌, take, vec_len}
use Rattle.std.specs.Io.KnownBytes.{prepend_known}
use Rattle.kola_base.proofs.reading.read_all.Given as goal

abbrev pub invariant-loop-filled : goal.invariant-loop-filled
invariant-loop-filled g l = record {
  within : l.filled ≤ vec_len l.bytes;
  bounded : l.filled ≤ l.limit + 1;
  no_less : g.S.Source.faults l.initial.source ≤ g.S.Source.faults l.source;
  taken : g.S.Source.left l.initial.source ≡ prepend_known (take l.filled l.bytes.items) (g.S.Source.left l.source);
}

abbrev pub decreases-loop-filled : goal.decreases-loop-filled
decreases-loop-filled g l = l.limit + 1 - l.filled

use Rattle.std.proofs.Common.{take}
use Rattle.kola_core.proofs.items.Items.copy.Given as goal

abbrev pub invariant-loop-entry : goal.invariant-loop-entry
invariant-loop-entry g l = g.T.Duplicate.same_all l.entries.items (take l.entry-index l.entry-items)

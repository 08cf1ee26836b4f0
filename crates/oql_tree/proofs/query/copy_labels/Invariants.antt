use Rattle.std.proofs.Common.{◌≡◌, take}
use Rattle.oql_tree.proofs.query.copy_labels.Given as goal

abbrev pub invariant-loop-label : goal.invariant-loop-label
invariant-loop-label l = l.entries.items ≡ take l.label-index l.labels

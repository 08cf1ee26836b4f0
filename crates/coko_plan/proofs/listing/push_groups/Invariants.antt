use Rattle.std.proofs.Common.{◌≡◌, ◌<◌, length, map, drop}
use Rattle.coko_plan.specs.EntryViews.{entry_tree}
use Rattle.coko_plan.specs.Working.Groups.{group}
use Rattle.coko_plan.proofs.listing.push_groups.Given as goal

abbrev pub invariant-loop-left : goal.invariant-loop-left
invariant-loop-left l = (l.left < length l.numbers) × ((map entry_tree l.entries.items, l.whole) ≡ group (map entry_tree l.initial.entries.items) (drop l.left l.numbers))

abbrev pub decreases-loop-left : goal.decreases-loop-left
decreases-loop-left l = l.left

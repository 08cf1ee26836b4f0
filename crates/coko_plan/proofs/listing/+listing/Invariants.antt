use Rattle.std.proofs.Common.{◌≡◌, ◌+◌, ◌*◌, ◌++◌, map, drop}
use Rattle.coko_block.specs.Statements.{of_stmts, of_arms}
use Rattle.coko_block.specs.StmtViews.{stmt_tree, arm_entry}
use Rattle.coko_block.specs.Models.Weights.{weight, entries_weight, arm_entries_weight}
use Rattle.coko_plan.specs.EntryViews.{entry_tree}
use Rattle.coko_plan.specs.Naming.{names_among, names_in_arms}
use Rattle.coko_plan.specs.Working.Sites.{site_faults}
use Rattle.coko_plan.specs.Working.Puts.{put_more_at, put_all_at, put_arms_at}
use Rattle.coko_plan.proofs.listing.+listing.Given as goal

abbrev pub decreases-list_stmt : goal.decreases-list_stmt
decreases-list_stmt l = 2 * weight (stmt_tree l.s.now)

abbrev pub decreases-list_walk : goal.decreases-list_walk
decreases-list_walk l = 2 * weight (stmt_tree l.s.now) + 1

abbrev pub decreases-list_left : goal.decreases-list_left
decreases-list_left l = 2 * entries_weight (map stmt_tree l.parts.now)

abbrev pub decreases-list_more : goal.decreases-list_more
decreases-list_more l = 2 * entries_weight (map stmt_tree l.parts.now)

abbrev pub decreases-list_right : goal.decreases-list_right
decreases-list_right l = 2 * entries_weight (map stmt_tree l.parts.now) + 1

abbrev pub decreases-list_all : goal.decreases-list_all
decreases-list_all l = 2 * entries_weight (map stmt_tree l.parts.now)

abbrev pub decreases-list_given : goal.decreases-list_given
decreases-list_given l = 2 * arm_entries_weight (map arm_entry l.arms.now) + 1

abbrev pub decreases-list_arms : goal.decreases-list_arms
decreases-list_arms l = 2 * arm_entries_weight (map arm_entry l.arms.now)

abbrev pub invariant-list_more-loop-part : goal.invariant-list_more-loop-part
invariant-list_more-loop-part l =
    (put_more_at l.site l.pairing l.whole (of_stmts (map stmt_tree (drop l.part-index l.parts))) (map entry_tree l.entries.items)
    ≡ put_more_at l.site l.pairing l.first (of_stmts (map stmt_tree l.parts)) (map entry_tree l.initial.entries.items)) ×
    (site_faults l.site (names_among (of_stmts (map stmt_tree (drop l.part-index l.parts)))) ≡ site_faults l.site (names_among (of_stmts (map stmt_tree l.parts))))

abbrev pub invariant-list_all-loop-part : goal.invariant-list_all-loop-part
invariant-list_all-loop-part l =
    ((
      (put_all_at l.site (of_stmts (map stmt_tree (drop l.part-index l.parts))) (map entry_tree l.entries.items)).0,
      l.numbers.items ++ (put_all_at l.site (of_stmts (map stmt_tree (drop l.part-index l.parts))) (map entry_tree l.entries.items)).1,
    )
    ≡ put_all_at l.site (of_stmts (map stmt_tree l.parts)) (map entry_tree l.initial.entries.items)) ×
    (site_faults l.site (names_among (of_stmts (map stmt_tree (drop l.part-index l.parts)))) ≡ site_faults l.site (names_among (of_stmts (map stmt_tree l.parts))))

abbrev pub invariant-list_arms-loop-path : goal.invariant-list_arms-loop-path
invariant-list_arms-loop-path l =
    ((
      (put_arms_at l.site (of_arms (map arm_entry (drop l.path-index l.arms))) (map entry_tree l.entries.items)).0,
      l.listed ++ (put_arms_at l.site (of_arms (map arm_entry (drop l.path-index l.arms))) (map entry_tree l.entries.items)).1,
    )
    ≡ put_arms_at l.site (of_arms (map arm_entry l.arms)) (map entry_tree l.initial.entries.items)) ×
    (site_faults l.site (names_in_arms (of_arms (map arm_entry (drop l.path-index l.arms)))) ≡ site_faults l.site (names_in_arms (of_arms (map arm_entry l.arms))))

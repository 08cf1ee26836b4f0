use Rattle.std.proofs.Common.{◌≡◌}
use Rattle.std.specs.Vec.Iter.{into_iter_items}
use Rattle.json.specs.Value as json
use Rattle.serde_json.specs.Data.{object}
use Rattle.kola_load.specs.JsonData.{members_data}
use Rattle.kola_load.specs.JsonViews.{listed_view, members_view}
use Rattle.kola_load.proofs.members.table_of.Given as goal

abbrev pub invariant-loop-member : goal.invariant-loop-member
invariant-loop-member l =
    (goal.iterator-loop-member).can_next l.member-iterator ×
    (goal.iterator-loop-member).is_finite l.member-iterator ×
    (object (members_data (json.members_view (into_iter_items l.member-iterator)) (members_view l.table.entries)) ≡ listed_view l.fn.members.items)

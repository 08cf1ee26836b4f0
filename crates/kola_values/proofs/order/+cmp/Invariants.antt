use Rattle.kola_core.proofs.Compare.{IsEqualBelow}
use Rattle.kola_values.specs.Values.{of_items, of_fields}
use Rattle.kola_values.specs.Order.{cmp}
use Rattle.kola_values.specs.Views.{value_tree}
use Rattle.kola_values.specs.Models.Weights.{weight, members_weight, fields_weight}
use Rattle.kola_values.proofs.Loops.{cmp_entry}
use Rattle.kola_values.proofs.order.+cmp.Given as goal

abbrev pub decreases-cmp_entries : goal.decreases-cmp_entries
decreases-cmp_entries l = fields_weight (of_fields l.a.now)

abbrev pub decreases-cmp_sets : goal.decreases-cmp_sets
decreases-cmp_sets l = members_weight (of_items l.a.now)

abbrev pub decreases-cmp_values : goal.decreases-cmp_values
decreases-cmp_values l = weight (value_tree l.a.now)

abbrev pub invariant-cmp_entries-loop-i : goal.invariant-cmp_entries-loop-i
invariant-cmp_entries-loop-i l = IsEqualBelow cmp_entry l.a l.b l.i

abbrev pub invariant-cmp_sets-loop-i : goal.invariant-cmp_sets-loop-i
invariant-cmp_sets-loop-i l = IsEqualBelow cmp l.a l.b l.i

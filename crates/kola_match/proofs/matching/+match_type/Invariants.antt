use Rattle.std.proofs.Common.{map}
use Rattle.kola_values.specs.Types.{of_type_fields}
use Rattle.kola_values.specs.Views.{type_tree, type_entry}
use Rattle.kola_values.specs.Models.Weights.{type_weight, types_weight}
use Rattle.kola_match.specs.FoundViews.{binds_of}
use Rattle.kola_match.proofs.FieldLaws.{FieldsLeft}
use Rattle.kola_match.proofs.matching.+match_type.Given as goal

abbrev pub decreases-match_fields : goal.decreases-match_fields
decreases-match_fields l = types_weight (of_type_fields (map type_entry l.fs.now))

abbrev pub decreases-match_type : goal.decreases-match_type
decreases-match_type l = type_weight (type_tree l.pattern.now)

abbrev pub invariant-match_fields-loop-i : goal.invariant-match_fields-loop-i
invariant-match_fields-loop-i l = FieldsLeft (map type_entry l.fs) (map type_entry l.gs) l.i (binds_of l.fn.found) (binds_of l.found)

use Rattle.kola_values.specs.Types.{of_type_fields}
use Rattle.kola_values.specs.Views.{type_tree}
use Rattle.kola_values.specs.Models.Weights.{type_weight, types_weight}
use Rattle.kola_values.proofs.SameTypes.{IsSameBelow}
use Rattle.kola_values.proofs.ty.+is.Given as goal

abbrev pub decreases-Ty::is : goal.decreases-Ty::is
decreases-Ty::is l = type_weight (type_tree l.self.now)

abbrev pub decreases-Fields::is : goal.decreases-Fields::is
decreases-Fields::is l = types_weight (of_type_fields l.self.now)

abbrev pub invariant-Fields::is-loop-i : goal.invariant-Fields::is-loop-i
invariant-Fields::is-loop-i l = IsSameBelow l.self l.other l.i

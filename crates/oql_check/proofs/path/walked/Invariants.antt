use Rattle.std.proofs.Common.{◌≡◌, drop}
use Rattle.kola_values.specs.Views.{type_tree}
use Rattle.oql_check.specs.QueryTypes.{path_type}
use Rattle.oql_check.proofs.path.walked.Given as goal

abbrev pub invariant-loop-label : goal.invariant-loop-label
invariant-loop-label l = path_type l.schema (type_tree l.t) l.labels ≡ path_type l.schema (type_tree l.last) (drop l.label-index l.labels)

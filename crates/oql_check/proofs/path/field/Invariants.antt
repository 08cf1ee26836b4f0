use Rattle.std.proofs.Common.{◌≡◌, drop}
use Rattle.kola_values.specs.Databases.{look_up}
use Rattle.oql_check.proofs.path.field.Given as goal

abbrev pub invariant-loop-name : goal.invariant-loop-name
invariant-loop-name l = look_up l.label l.fields ≡ look_up l.label (drop l.name-index l.fields)

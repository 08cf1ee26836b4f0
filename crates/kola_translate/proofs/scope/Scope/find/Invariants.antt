use Rattle.std.proofs.Common.{◌≡◌, drop}
use Rattle.kola_values.specs.Databases.{look_up}
use Rattle.kola_translate.proofs.scope.Scope.find.Given as goal

abbrev pub invariant-loop-i : goal.invariant-loop-i
invariant-loop-i l = look_up l.name l.self ≡ look_up l.name (drop l.i l.self)

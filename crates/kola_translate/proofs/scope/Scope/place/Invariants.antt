use Rattle.std.proofs.Common.{◌≡◌, drop}
use Rattle.kola_translate.specs.Translation.{distance}
use Rattle.kola_translate.proofs.ScopeLoops.{farther}
use Rattle.kola_translate.proofs.scope.Scope.place.Given as goal

abbrev pub invariant-loop-i : goal.invariant-loop-i
invariant-loop-i l = distance l.name l.self ≡ farther l.i (distance l.name (drop l.i l.self))

use Rattle.std.proofs.Common.{not}
use Rattle.kola_core.specs.NameLists.{is_listed}
use Rattle.kola_load.proofs.MemberNames.{Left}
use Rattle.kola_load.proofs.names.least_unknown.Given as goal

abbrev pub invariant-loop-name : goal.invariant-loop-name
invariant-loop-name g l =
    (goal.iterator-loop-name g).can_next l.name-iterator ×
    (goal.iterator-loop-name g).is_finite l.name-iterator ×
    Left (λ n. not (is_listed n (g.K.Knows.names l.known))) l.members.entries l.name-iterator

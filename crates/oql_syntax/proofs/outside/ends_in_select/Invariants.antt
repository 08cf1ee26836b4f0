use Rattle.std.proofs.Common.{◌≡◌, take}
use Rattle.oql_syntax.specs.Alphabet.{KOther}
use Rattle.oql_syntax.specs.QueryFaults.{ends_in_select}
use Rattle.oql_syntax.specs.Roles.{ends_so}
use Rattle.oql_syntax.proofs.outside.ends_in_select.Given as goal

abbrev pub invariant-loop-left : goal.invariant-loop-left
invariant-loop-left l = ends_so l.ends l.before l.last (take l.left l.rest) ≡ ends_in_select KOther KOther (take l.count l.fn.tokens)

abbrev pub decreases-loop-left : goal.decreases-loop-left
decreases-loop-left l = l.left

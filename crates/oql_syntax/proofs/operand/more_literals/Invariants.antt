use Rattle.std.proofs.Common.{◌≡◌, length, []}
use Rattle.kola_parse.specs.Listed.{listed}
use Rattle.oql_syntax.specs.QueryReaders.{next_literal}
use Rattle.oql_tree.specs.QueryViews.{literal_entries}
use Rattle.oql_syntax.proofs.operand.more_literals.Given as goal

abbrev pub invariant-loop-literals : goal.invariant-loop-literals
invariant-loop-literals l = listed next_literal (literal_entries l.literals.items) l.rest ≡ listed next_literal [] l.fn.tokens

abbrev pub decreases-loop-literals : goal.decreases-loop-literals
decreases-loop-literals l = length l.rest

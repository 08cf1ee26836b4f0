use Rattle.std.proofs.Common.{sym, ◌∙◌}
use Rattle.kola_parse.proofs.Loops.{chain_ends}
use Rattle.oql_syntax.specs.Alphabet.{kind}
use Rattle.oql_syntax.specs.QueryReaders.{label_move, add_label, PathParts}
use Rattle.oql_syntax.proofs.operand.labels_of.Goals as goal

pub returns : goal.returns
returns c = sym c.loop-labels.invariant ∙ chain_ends (λ (x : PathParts) t. label_move (kind t)) add_label c.loop-labels.left (c.args._e.now, c.loop-labels.labels.items) c.loop-labels.rest (rw c.in_default.is at c.in_ok-label.ensures.link)

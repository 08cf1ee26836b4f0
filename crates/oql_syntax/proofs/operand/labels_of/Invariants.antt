use Rattle.std.proofs.Common.{◌≡◌, []}
use Rattle.kola_parse.specs.Reader.{chain}
use Rattle.oql_syntax.specs.Alphabet.{kind}
use Rattle.oql_syntax.specs.QueryReaders.{label_move, add_label, PathParts}
use Rattle.oql_syntax.proofs.operand.labels_of.Given as goal

abbrev pub invariant-loop-labels : goal.invariant-loop-labels
invariant-loop-labels l = chain (λ (x : PathParts) t. label_move (kind t)) add_label l.left (l._e, l.labels.items) l.rest
    ≡ chain (λ (x : PathParts) t. label_move (kind t)) add_label l.links (l._e, []) l.fn.tokens

abbrev pub decreases-loop-labels : goal.decreases-loop-labels
decreases-loop-labels l = l.left

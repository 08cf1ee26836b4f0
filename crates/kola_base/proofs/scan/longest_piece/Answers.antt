use Rattle.kola_base.proofs.Longest.{some_longest, none_piece}
use Rattle.kola_base.proofs.scan.longest_piece.Goals as goal

pub returns : goal.returns
returns c = record {
  some = some_longest c.args.bytes.now c.first_piece.result c.first_piece.ensures;
  none = none_piece c.args.bytes.now c.first_piece.result c.first_piece.ensures;
}

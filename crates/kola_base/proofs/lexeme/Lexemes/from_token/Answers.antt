use Rattle.std.proofs.lemmas.List.{take_rest}
use Rattle.kola_base.proofs.PlacedLaws.{all_left, left_drop}
use Rattle.kola_base.proofs.lexeme.Lexemes.from_token.Goals as goal

pub invariant_of-result : goal.invariant_of-result
invariant_of-result c = rw (take_rest c.args.tokens.now c.args.from) (left_drop c.args.from c.args.tokens.now c.args.text.now c.requires.within (all_left c.args.tokens.now c.args.text.now c.requires.tokens))

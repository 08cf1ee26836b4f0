use Rattle.kola_base.proofs.SpelledLaws.{one_front, one_front_fault, front_once}
use Rattle.kola_text.specs.Starts.{APattern, StartText, start_at}
use Rattle.kola_text.specs.Limits.{levels_below}
use Rattle.kola_text.proofs.WholeLaws.{start_good}
use Rattle.kola_text.proofs.read.a_pattern_part_is_one_or_has_one_fault.Goals as goal

pub returns-clause-some : goal.returns-clause-some
returns-clause-some c = let s = APattern in front_once c.args.text.now c.args.toks.now c.requires.tokens (start_at s) (StartText s) (start_good s) levels_below c.args.from c.requires.within

pub returns-clause-one_part : goal.returns-clause-one_part
returns-clause-one_part c n m x y h k = let s = APattern in one_front c.args.text.now c.args.toks.now c.requires.tokens (start_at s) (StartText s) (start_good s) levels_below c.args.from c.requires.within n m x y h k

pub returns-clause-one_fault : goal.returns-clause-one_fault
returns-clause-one_fault c at to why cause h k = let s = APattern in one_front_fault c.args.text.now c.args.toks.now c.requires.tokens (start_at s) (StartText s) (start_good s) levels_below c.args.from c.requires.within at to why cause h k

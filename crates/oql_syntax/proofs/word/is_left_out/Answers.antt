use Rattle.std.proofs.Common.{◌∙◌, arith}
use Rattle.std.proofs.lemmas.Bool.Decides.{nat_tests}
use Rattle.kola_base.specs.QueryWords.{is_among}
use Rattle.oql_syntax.specs.WordLists.{left_out_of_length}
use Rattle.oql_syntax.proofs.WordLengths.{left_out_by_length, among_length}
use Rattle.oql_syntax.proofs.word.is_left_out.Goals as goal

pub returns-in-2 : goal.returns-in-2
unfolding is_among left_out_of_length
returns-in-2 c = c.is_among.ensures ∙ among_length 2 c.args.word.now c.in-2.is

pub returns-in-3 : goal.returns-in-3
unfolding is_among left_out_of_length
returns-in-3 c = c.is_among-in-3.ensures ∙ among_length 3 c.args.word.now c.in-3.is

pub returns-in-4 : goal.returns-in-4
unfolding is_among left_out_of_length
returns-in-4 c = c.is_among-in-4.ensures ∙ among_length 4 c.args.word.now c.in-4.is

pub returns-in-5 : goal.returns-in-5
unfolding is_among left_out_of_length
returns-in-5 c = c.is_among-in-5.ensures ∙ among_length 5 c.args.word.now c.in-5.is

pub returns-in-6 : goal.returns-in-6
unfolding is_among left_out_of_length
returns-in-6 c = c.is_among-in-6.ensures ∙ among_length 6 c.args.word.now c.in-6.is

pub returns-in-7 : goal.returns-in-7
unfolding is_among left_out_of_length
returns-in-7 c = c.is_among-in-7.ensures ∙ among_length 7 c.args.word.now c.in-7.is

pub returns-in-9 : goal.returns-in-9
unfolding is_among left_out_of_length
returns-in-9 c = c.is_among-in-9.ensures ∙ among_length 9 c.args.word.now c.in-9.is

pub returns-in_default : goal.returns-in_default
unfolding left_out_of_length
returns-in_default c = let h = left_out_by_length c.args.word.now in grind (arith, nat_tests, h)

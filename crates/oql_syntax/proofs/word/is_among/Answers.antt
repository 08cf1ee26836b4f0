use Rattle.std.proofs.Common.{eqb, rules, tests}
use Rattle.std.specs.Str.{str_eq_ignore_ascii_case}
use Rattle.std.proofs.lemmas.Iterator.Search.{any_from_yields_List}
use Rattle.std.proofs.lemmas.Iterator.Splits.{YieldsList-from_slice_split}
use Rattle.kola_base.specs.QueryWords.{is_among}
use Rattle.oql_syntax.proofs.word.is_among.Goals as goal

pub returns : goal.returns
unfolding is_among
returns c = any_from_yields_List (str_eq_ignore_ascii_case c.args.word.now) _ _ c.any.result c.any.ensures.ran
    (YieldsList-from_slice_split _ (λ b. eqb b 32) c.args.words.now c.split.ensures.rest c.split.ensures.done c.split.ensures.closure (λ x b q k. search (rules, tests)))
    (λ x b q k. search (rules, tests))

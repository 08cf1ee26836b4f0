use Rattle.kola_base.proofs.SpelledLaws.{answer_only, answer_at}
use Rattle.kola_parse.specs.Reading.{never}
use Rattle.kola_term.specs.ContextView.{context_of}
use Rattle.kola_term.specs.TermView.{term_tree}
use Rattle.kola_text.specs.Starts.{ATerm, StartText, start_at}
use Rattle.kola_text.specs.Limits.{levels_below}
use Rattle.kola_text.proofs.WholeLaws.{start_good}
use Rattle.kola_text.proofs.read.read_term.Goals as goal

pub returns-clause-only : goal.returns-clause-only
returns-clause-only c x h =
    let s = ATerm (context_of c.args.vars.now) in
    answer_only (start_at s) (StartText s) never (start_good s) levels_below c.args.text.now term_tree c.read_within.result c.read_within.ensures.found c.read_within.ensures.fault x h

pub returns-clause-only_fault : goal.returns-clause-only_fault
returns-clause-only_fault c at w h =
    let s = ATerm (context_of c.args.vars.now) in
    answer_at (start_at s) (StartText s) never (start_good s) levels_below c.args.text.now term_tree c.read_within.result c.read_within.ensures.found c.read_within.ensures.fault at w h

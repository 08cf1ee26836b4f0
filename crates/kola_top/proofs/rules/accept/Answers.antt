use Rattle.std.proofs.Common.{sym, ◌∙◌}
use Rattle.kola_top.proofs.RulesLaws.{none_valid}
use Rattle.kola_top.proofs.rules.accept.Goals as goal

pub returns-then-len-eq0-clause-answer : goal.returns-then-len-eq0-clause-answer
returns-then-len-eq0-clause-answer c = none_valid c.args.schema.value c.args.drafts (sym c.len.ensures ∙ c.if-len-eq0.true)

use Rattle.std.proofs.Common.{map, ap, ◌∙◌}
use Rattle.kola_schema.specs.Schemas.{are_distinct}
use Rattle.kola_match.proofs.RuleLaws.{names_seen}
use Rattle.kola_match.proofs.well_typed.names_differ.Goals as goal

pub returns : goal.returns
returns c = c.labels_are_distinct.ensures ∙ (ap (λ l. are_distinct (map (λ e. e.0) l)) c.as_slice.ensures ∙ ap are_distinct (names_seen c.args.vars.now))

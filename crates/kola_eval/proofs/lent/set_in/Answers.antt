use Rattle.std.proofs.Common.{rules, ap, sym, ◌∙◌}
use Rattle.kola_values.specs.Sets.{members}
use Rattle.kola_values.proofs.Anys.{items-of_items}
use Rattle.kola_eval.specs.Lending.{lent_tree}
use Rattle.kola_eval.proofs.lent.set_in.Goals as goal

pub returns-in-Set : goal.returns-in-Set
returns-in-Set c = sym (ap (λ v. members (lent_tree v)) c.in-Set.is ∙ items-of_items c.in-Set.set.now)

pub returns-in-Set-whole : goal.returns-in-Set-whole
returns-in-Set-whole c = let e = items-of_items c.in-Set-whole.set in search rules

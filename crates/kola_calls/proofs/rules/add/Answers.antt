use Rattle.std.proofs.Common.{is_some, ◌∙◌, ap, sym}
use Rattle.kola_core.specs.NameLists.{is_listed}
use Rattle.kola_rule.specs.Tables.{rule_names}
use Rattle.kola_calls.proofs.rules.add.Goals as goal

pub push-requires : goal.push-requires
push-requires c =
    ap (λ r. is_listed r.name (rule_names c.args.table.now)) (c.into_inner.ensures ∙ sym c.deref.ensures)
    ∙ (sym c.find.ensures.listed ∙ ap is_some c.in-None.is)

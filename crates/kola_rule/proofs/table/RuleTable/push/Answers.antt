use Rattle.std.proofs.Common.{◌≡◌, false, ◌∙◌, ap, sym, subst, [], ◌∷◌, ◌++◌}
use Rattle.kola_core.specs.NameLists.{is_listed}
use Rattle.kola_schema.specs.Schemas.{are_distinct}
use Rattle.kola_rule.specs.Tables.{rule_names}
use Rattle.kola_rule.proofs.Names.{names_apart, names_longer}
use Rattle.kola_rule.proofs.table.RuleTable.push.Goals as goal

pub invariant_of-self-2 : goal.invariant_of-self-2
invariant_of-self-2 c =
    let old = c.self.inside.rules.items in
    let longer = c.push_reserved.ensures.items ∙ ap (λ rs. rs ++ c.args.rule ∷ []) c.reserve.ensures.items in
    let new = subst (λ rs. is_listed c.args.rule.name (rule_names rs) ≡ false) (sym c.self.view_is) c.requires in (
      c.in_default-add.ensures.added
          ∙ names_longer c.self.inside.names c.as_text.result.now old c.args.rule c.self.invariant.0 c.as_text.ensures.text new
          ∙ ap rule_names (sym longer),
      ap (λ rs. are_distinct (rule_names rs)) longer ∙ names_apart old c.args.rule c.self.invariant.1 new,
    )

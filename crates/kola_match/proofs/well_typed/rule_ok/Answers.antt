use Rattle.std.proofs.Common.{sym, ◌∙◌}
use Rattle.kola_schema.specs.Schemas.{class_names}
use Rattle.kola_match.proofs.BindLaws.{if_ok}
use Rattle.kola_match.proofs.RuleLaws.{variables_seen}
use Rattle.kola_match.proofs.well_typed.rule_ok.Goals as goal

pub returns-then-not-knows_variables : goal.returns-then-not-knows_variables
returns-then-not-knows_variables c =
    (λ e. absurd (cc), λ h. sym c.if-not-knows_variables.true ∙ (c.knows_variables.ensures ∙ (variables_seen (class_names c.args.schema.now) c.as_slice.result.now c.args.rule.now.vars c.as_slice.ensures ∙ h.known)))

pub returns : goal.returns
returns c =
    let known = sym (variables_seen (class_names c.args.schema.now) c.as_slice.result.now c.args.rule.now.vars c.as_slice.ensures) ∙ (sym c.knows_variables.ensures ∙ c.if-not-knows_variables.false) in
    if_ok _ _ c.sides_fit.result c.sides_fit.ensures (λ b f. (
      λ e. record {
        distinct = sym c.names_differ.ensures ∙ c.if-not-names_differ.false;
        occur = c.in_ok-all_occur.ensures.0 c.if-not-branch.false;
        conditions = c.are_functions.ensures.0 c.if-not-are_functions.false;
        known = known;
        input_known = sym c.knows_type.ensures ∙ c.if-not-knows_type.false;
        sides = f.0 e;
      },
      λ h. f.1 h.sides,
    ))

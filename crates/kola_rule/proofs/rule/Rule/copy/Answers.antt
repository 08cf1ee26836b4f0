use Rattle.kola_rule.proofs.Copies.{same_context}
use Rattle.kola_rule.proofs.rule.Rule.copy.Goals as goal

pub returns : goal.returns
returns c =
    let vars = same_context _ _ c.in_ok-vars.ensures.0 c.in_ok-vars.ensures.1 in
    λ i. record {
      name = c.in_ok-name.ensures i;
      vars = vars i;
      input = c.in_ok-input.ensures i;
      when = c.in_ok-when.ensures i;
      left = c.in_ok-left.ensures.0 i;
      right = c.in_ok-left.ensures.1 i;
    }

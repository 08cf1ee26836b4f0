use Rattle.std.proofs.Common.{Some, None, ◌++◌, sym, ap, append-nil, ◌∙◌}
use Rattle.std.proofs.lemmas.Result.{on_ok_weaker}
use Rattle.coko_plan.proofs.Writing.{rule_word}
use Rattle.coko_plan.proofs.text.push_rule.Goals as goal

pub returns-in-Some : goal.returns-in-Some
returns-in-Some c =
    let word = c.as_bytes.ensures.value ∙ (c.as_text.ensures.text ∙ rule_word c.args.rules.now c.args.rule (Some c.in-Some.rule.now) c.in-Some.ensures) in
    on_ok_weaker c.push_bytes.result (λ h. h ∙ ap (λ z. c.args.out.now.items ++ z) word) c.push_bytes.ensures.ok

pub returns-in-None : goal.returns-in-None
returns-in-None c = sym (append-nil c.args.out.now.items) ∙ ap (λ z. c.args.out.now.items ++ z) (rule_word c.args.rules.now c.args.rule None c.in-None.ensures)

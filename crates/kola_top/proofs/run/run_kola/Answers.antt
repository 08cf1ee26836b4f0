use Rattle.std.proofs.Common.{◌≡◌, Option, Some, None, map, refl, sym, ◌∙◌}
use Rattle.std.specs.String.{string_bytes}
use Rattle.kola_top.specs.declared.status.Status.TheVariants as statuses
use Rattle.kola_top.proofs.RunLaws.{silent, usage_only, all_tell, all_complete, all_usage, all_long, all_too_long, all_replied}
use Rattle.kola_top.proofs.run.run_kola.Goals as goal

pub returns-in_default-clause-answer : goal.returns-in_default-clause-answer
returns-in_default-clause-answer g c =
    all_tell _ _ _ _ _ _ statuses.Usage _ _ refl (all_usage _ _ _ (sym c.in_default.ensures) c.usage_line.ensures) c.write_answer.ensures

pub returns-in_default-clause-complete : goal.returns-in_default-clause-complete
returns-in_default-clause-complete g c =
    all_complete _ _ _ _ _ _ _ _ _ _ _ (all_usage _ _ _ (sym c.in_default.ensures) c.usage_line.ensures) c.write_answer.ensures

none_some : {A : Type 0} (o : Option A) (x : A) → o ≡ None → o ≡ Some x → ⊥
none_some o x p q = absurd (let i : None ≡ Some x = sym p ∙ q in cc)

pub returns-in-Ok-answer_to-clause-usage : goal.returns-in-Ok-answer_to-clause-usage
returns-in-Ok-answer_to-clause-usage g c =
    let some = sym c.in-Some.ensures in
    record {
      comes = λ e. absurd (none_some _ _ e some);
      only = usage_only _ _ _ _ _ _ _ _ _ _ (c.in-Ok-answer_to.ensures.answer (map string_bytes c.args.words.now) some) c.write_answer-in-Ok-answer_to.ensures;
      unread = λ e. absurd (none_some _ _ e some);
    }

pub returns-in-Ok-answer_to-clause-silent : goal.returns-in-Ok-answer_to-clause-silent
returns-in-Ok-answer_to-clause-silent g c =
    silent _ _ _ _ _ _ _ c.in-Ok-answer_to.ensures.written c.write_answer-in-Ok-answer_to.ensures

pub returns-in-Ok-answer_to-clause-answer : goal.returns-in-Ok-answer_to-clause-answer
returns-in-Ok-answer_to-clause-answer g c =
    let answer = c.in-Ok-answer_to.ensures.answer (map string_bytes c.args.words.now) (sym c.in-Some.ensures) in
    let due = all_replied _ _ _ _ _ _ _ c.in-Ok.ensures.whole c.deref.ensures.value answer c.deref-in-Ok-answer_to.ensures.value in
    all_tell _ _ _ _ _ _ _ _ _ c.in-Ok-answer_to.ensures.written due c.write_answer-in-Ok-answer_to.ensures

pub returns-in-Ok-answer_to-clause-complete : goal.returns-in-Ok-answer_to-clause-complete
returns-in-Ok-answer_to-clause-complete g c =
    let answer = c.in-Ok-answer_to.ensures.answer (map string_bytes c.args.words.now) (sym c.in-Some.ensures) in
    let due = all_replied _ _ _ _ _ _ _ c.in-Ok.ensures.whole c.deref.ensures.value answer c.deref-in-Ok-answer_to.ensures.value in
    all_complete _ _ _ _ _ _ _ _ _ _ _ due c.write_answer-in-Ok-answer_to.ensures

pub returns-in-Err-TooLong-clause-answer : goal.returns-in-Err-TooLong-clause-answer
returns-in-Err-TooLong-clause-answer g c =
    let due = all_too_long _ _ _ _ (sym c.in-Some.ensures) (all_long _ _ c.in-Err-TooLong.field-0-is c.in-Err-TooLong.ensures.whole) c.too_long_line.ensures in
    all_tell _ _ _ _ _ _ statuses.TooLong _ _ refl due c.write_answer-in-Err-TooLong.ensures

pub returns-in-Err-TooLong-clause-complete : goal.returns-in-Err-TooLong-clause-complete
returns-in-Err-TooLong-clause-complete g c =
    let due = all_too_long _ _ _ _ (sym c.in-Some.ensures) (all_long _ _ c.in-Err-TooLong.field-0-is c.in-Err-TooLong.ensures.whole) c.too_long_line.ensures in
    all_complete _ _ _ _ _ _ _ _ _ _ _ due c.write_answer-in-Err-TooLong.ensures

-- What `check` writes, and the lines of rules that are refused, computed.
use Rattle.std.proofs.Common.{◌≡◌, [], ◌∷◌, refl}
use Rattle.std.specs.Prelude.{codes}
use Rattle.std.specs.Fmt.{digits}
use Rattle.std.specs.Str.Lines.{lines}
use Rattle.kola_base.specs.declared.lex.LexWhy.TheVariants.{BadByte}
use Rattle.kola_base.specs.declared.text_fault.TextWhy.TheVariants.{Lex, Unexpected, TooDeep}
use Rattle.kola_proof.specs.declared.fault.StepWhy.TheVariants as why
use Rattle.kola_top.specs.FaultLines.{rules_line, rule_line}
use Rattle.kola_top.specs.Report.{check_text}

three_rules : lines (check_text (codes "near" ∷ codes "same" ∷ codes "push" ∷ []) 0) ≡ codes "rule near ok" ∷ codes "rule same ok" ∷ codes "rule push ok" ∷ codes "rules: 3" ∷ codes "blocks: 0" ∷ []
unfolding digits
three_rules = refl

bad_byte : rules_line 17 (Lex BadByte) ≡ codes "fault: rules at 17: BadByte\n"
unfolding digits
bad_byte = refl

unexpected : rules_line 105 Unexpected ≡ codes "fault: rules at 105: Unexpected\n"
unfolding digits
unexpected = refl

too_deep : rules_line 230 TooDeep ≡ codes "fault: rules at 230: TooDeep\n"
unfolding digits
too_deep = refl

no_instance : rule_line (codes "bad") 1 why.NoInstance ≡ codes "fault: rule bad step 1: NoInstance\n"
unfolding digits
no_instance = refl

second_step : rule_line (codes "push") 2 why.NoInstance ≡ codes "fault: rule push step 2: NoInstance\n"
unfolding digits
second_step = refl

keyless : rule_line (codes "keyless") 1 why.ConditionNotShown ≡ codes "fault: rule keyless step 1: ConditionNotShown\n"
unfolding digits
keyless = refl

name_taken : rule_line (codes "id_left") 0 why.NameTaken ≡ codes "fault: rule id_left step 0: NameTaken\n"
unfolding digits
name_taken = refl

twelfth_step : rule_line (codes "far") 12 why.LastIsNotRight ≡ codes "fault: rule far step 12: LastIsNotRight\n"
unfolding digits
twelfth_step = refl

-- From an answer that was sent to what the top call says of the job.
use Rattle.std.proofs.Common.{◌≡◌, ◌⊎◌, ℕ, ◌<◌, ◌≤◌, false, List, length, Err, Some, None, Option, IfSome, IsTrue, refl, sym, ◌∙◌, subst, inl, inr}
use Rattle.kola_base.specs.declared.reading.ReadAllFault.{ReadAllFault}
use Rattle.kola_base.specs.declared.reading.ReadAllFault.TheVariants.{TooLong}
use Rattle.kola_base.specs.ReadToEnd.{AnswersTo}
use Rattle.kola_top.specs.declared.words.Action.{Action}
use Rattle.kola_top.specs.declared.status.Status.{Status}
use Rattle.kola_top.specs.declared.status.Status.TheVariants as statuses
use Rattle.kola_top.specs.Words.{action_of}
use Rattle.kola_top.specs.FaultLines.{usage_line, too_long_line}
use Rattle.kola_top.specs.Stages.{greatest_length}
use Rattle.kola_top.specs.Answer.{Answer, usage, too_long, layout, missing, schema, rules_text, rule, check_report, query_text, query_type, too_large, translate_report, database, visits, run_report}
use Rattle.kola_top.specs.Runs.{Tells, Wrote, Completes, Sent, whole, front, is_written}
use Rattle.kola_top.proofs.AnswerLaws.{one_answer}

whole_tells : (words : List (List ℕ)) (job : List ℕ) (before after : Option (List ℕ)) (due : Status) → IsTrue (is_written due) → Wrote words job before after due → Tells words job before after due
whole_tells words job before after statuses.Ok written w = w
whole_tells words job before after statuses.Usage written w = w
whole_tells words job before after statuses.Layout written w = w
whole_tells words job before after statuses.Schema written w = w
whole_tells words job before after statuses.Database written w = w
whole_tells words job before after statuses.Query written w = w
whole_tells words job before after statuses.Rules written w = w
whole_tells words job before after statuses.Block written w = w
whole_tells words job before after statuses.Visits written w = w
whole_tells words job before after statuses.ReadFault written w = cc
whole_tells words job before after statuses.WriteFault written w = cc
whole_tells words job before after statuses.Memory written w = cc
whole_tells words job before after statuses.TooLong written w = w
whole_tells words job before after statuses.TermTooLarge written w = w

pub tells : (words : List (List ℕ)) (job : List ℕ) (before after : Option (List ℕ)) (m n : ℕ) (due status : Status) (bytes : List ℕ) → IsTrue (is_written due) → Answer words job due bytes → Sent due bytes before after m n status → Tells words job before after status
tells words job before after m n due _ bytes written answer (whole sent) = whole_tells words job before after due written (bytes, answer, sent)
tells words job before after m n due _ bytes written answer (front k proper sent rose) = (due, bytes, k, answer, proper, sent)

pub completes : (words : List (List ℕ)) (job : List ℕ) (before after : Option (List ℕ)) (l k m n : ℕ) (due status : Status) (bytes : List ℕ) → Answer words job due bytes → Sent due bytes before after m n status
    → (other : Status) (others : List ℕ) → Answer words job other others → Completes other l k m n status
completes words job before after l k m n due _ bytes answer (whole sent) other others told = inl (one_answer words job due other bytes others answer told).0
completes words job before after l k m n due _ bytes answer (front i proper sent rose) other others told = inr (inr (inr (refl, rose)))

-- what is answered where nothing is written is no status of an answer
pub silent : (before after : Option (List ℕ)) (m n : ℕ) (due status : Status) (bytes : List ℕ) → IsTrue (is_written due) → Sent due bytes before after m n status
    → (status ≡ statuses.ReadFault) ⊎ (status ≡ statuses.Memory) → after ≡ before
silent before after m n due _ bytes written (whole sent) (inl e) = let wrong : IsTrue false = subst (λ s. IsTrue (is_written s)) e written in cc
silent before after m n due _ bytes written (whole sent) (inr e) = let wrong : IsTrue false = subst (λ s. IsTrue (is_written s)) e written in cc
silent before after m n due _ bytes written (front k proper sent rose) (inl e) = cc
silent before after m n due _ bytes written (front k proper sent rose) (inr e) = cc

answer_usage : (words : List (List ℕ)) (job : List ℕ) (s : Status) (b : List ℕ) → Answer words job s b → s ≡ statuses.Usage → action_of words ≡ None
answer_usage words job _ _ (usage e) u = e
answer_usage words job _ _ (too_long a d h) u = cc
answer_usage words job _ _ (layout a f s h) u = cc
answer_usage words job _ _ (missing a s h) u = cc
answer_usage words job _ _ (schema a at why s h) u = cc
answer_usage words job _ _ (rules_text a at why s h) u = cc
answer_usage words job _ _ (rule a name step why s h) u = cc
answer_usage words job _ _ (check_report s) u = cc
answer_usage words job _ _ (query_text a at cause s n h) u = cc
answer_usage words job _ _ (query_type a at why s h) u = cc
answer_usage words job _ _ (too_large a s h) u = cc
answer_usage words job _ _ (translate_report s) u = cc
answer_usage words job _ _ (database e s h) u = cc
answer_usage words job _ _ (visits s h) u = cc
answer_usage words job _ _ (run_report s) u = cc

pub usage_only : (words : List (List ℕ)) (job : List ℕ) (before after : Option (List ℕ)) (m n : ℕ) (due status : Status) (bytes sent : List ℕ) → Answer words job due bytes → Sent due sent before after m n status
    → status ≡ statuses.Usage → action_of words ≡ None
usage_only words job before after m n due _ bytes _ answer (whole sent) u = answer_usage words job due bytes answer u
usage_only words job before after m n due _ bytes _ answer (front k proper sent rose) u = cc

-- of a source that tells its bytes
pub all_tell : (left : Option (List ℕ)) (words : List (List ℕ)) (before after : Option (List ℕ)) (m n : ℕ) (due status : Status) (bytes : List ℕ) → IsTrue (is_written due)
    → IfSome left (λ job. Answer words job due bytes) → Sent due bytes before after m n status → IfSome left (λ job. Tells words job before after status)
all_tell None words before after m n due status bytes written answer sent = tt
all_tell (Some job) words before after m n due status bytes written answer sent = tells words job before after m n due status bytes written answer sent

pub all_complete : (left : Option (List ℕ)) (words : List (List ℕ)) (before after : Option (List ℕ)) (l k m n : ℕ) (due status : Status) (bytes : List ℕ) → IfSome left (λ job. Answer words job due bytes)
    → Sent due bytes before after m n status → IfSome left (λ job. (other : Status) (others : List ℕ) → Answer words job other others → Completes other l k m n status)
all_complete None words before after l k m n due status bytes answer sent = tt
all_complete (Some job) words before after l k m n due status bytes answer sent = completes words job before after l k m n due status bytes answer sent

pub all_usage : (left : Option (List ℕ)) (words : List (List ℕ)) (bytes : List ℕ) → action_of words ≡ None → bytes ≡ usage_line → IfSome left (λ job. Answer words job statuses.Usage bytes)
all_usage None words bytes none line = tt
all_usage (Some job) words bytes none line = subst (Answer words job statuses.Usage) (sym line) (usage none)

pub all_long : (left : Option (List ℕ)) (fault : ReadAllFault) → fault ≡ TooLong → IfSome left (λ job. AnswersTo greatest_length job (Err fault)) → IfSome left (λ job. greatest_length < length job)
all_long left fault e told = subst (λ f. IfSome left (λ job. AnswersTo greatest_length job (Err f))) e told

pub all_too_long : (left : Option (List ℕ)) (words : List (List ℕ)) (a : Action) (bytes : List ℕ) → action_of words ≡ Some a → IfSome left (λ job. greatest_length < length job) → bytes ≡ too_long_line
    → IfSome left (λ job. Answer words job statuses.TooLong bytes)
all_too_long None words a bytes some long line = tt
all_too_long (Some job) words a bytes some long line = subst (Answer words job statuses.TooLong) (sym line) (too_long a some long)

pub all_replied : (left : Option (List ℕ)) (words : List (List ℕ)) (read given : List ℕ) (due : Status) (bytes sent : List ℕ) → IfSome left (λ job. (read ≡ job) × (length job ≤ greatest_length)) → given ≡ read
    → Answer words given due bytes → sent ≡ bytes → IfSome left (λ job. Answer words job due sent)
all_replied None words read given due bytes sent all lent answer same = tt
all_replied (Some job) words read given due bytes sent all lent answer same =
    subst (Answer words job due) (sym same) (subst (λ j. Answer words j due bytes) (lent ∙ all.0) answer)

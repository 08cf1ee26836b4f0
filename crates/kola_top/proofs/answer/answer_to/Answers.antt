use Rattle.std.proofs.Common.{◌≡◌, ℕ, ◌≤◌, true, List, length, Result, Ok, Err, IfOk, Some, sym, subst}
use Rattle.kola_top.specs.declared.words.Action.{Action}
use Rattle.kola_top.specs.declared.status.Status.{Status}
use Rattle.kola_top.specs.declared.refusal.Refusal.{Refusal}
use Rattle.kola_top.specs.Words.{action_of}
use Rattle.kola_top.specs.Stages.{greatest_length}
use Rattle.kola_top.specs.Answer.{Answer}
use Rattle.kola_top.specs.StageLine.{OnItsWay}
use Rattle.kola_top.specs.Refusals.{is_told, status_of, line_of, Refuses}
use Rattle.kola_top.proofs.AnswerLaws.{answered}
use Rattle.kola_top.proofs.StageLaws.{told_refuses}
use Rattle.kola_top.proofs.answer.answer_to.Goals as goal

-- a refusal that is told is the answer
said : {X E : Type 0} (result : Result X E) (status : X → Status) (bytes : X → List ℕ) (a : Action) (job : List ℕ) (r : Refusal) → length job ≤ greatest_length → Refuses (OnItsWay a job) r
    → IfOk result (λ _. is_told r ≡ true) → IfOk result (λ x. status x ≡ status_of r) → IfOk result (λ x. bytes x ≡ line_of r)
    → IfOk result (λ x. (words : List (List ℕ)) → action_of words ≡ Some a → Answer words job (status x) (bytes x))
said (Ok x) status bytes a job r short h t s b =
    λ words e. answered words job a (record { command = e; is_short = short }) _ _
    (subst (λ z. OnItsWay a job z (bytes x)) (sym s) (subst (OnItsWay a job (status_of r)) (sym b) (told_refuses (OnItsWay a job) r t h)))
said (Err _) status bytes a job r short h t s b = tt

pub returns-in-Ok-clause-answer : goal.returns-in-Ok-clause-answer
returns-in-Ok-clause-answer c = λ words e. answered words c.args.job.now c.args.action (record { command = e; is_short = c.requires }) _ _ c.in-Ok.ensures

pub returns-in-Err-clause-answer : goal.returns-in-Err-clause-answer
returns-in-Err-clause-answer c =
    said c.refused.result (λ x. x.status) (λ x. x.bytes.items) c.args.action c.args.job.now c.in-Err.refusal c.requires c.in-Err.ensures c.refused.ensures.told c.refused.ensures.status c.refused.ensures.line

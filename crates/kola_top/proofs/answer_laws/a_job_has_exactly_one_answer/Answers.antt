use Rattle.std.proofs.Common.{◌⊎◌, ℕ, List, inl, inr, sym, subst}
use Rattle.kola_values.specs.Databases.{Classes}
use Rattle.kola_rule.specs.Rules.{DraftTree}
use Rattle.kola_laws.specs.Laws.{laws}
use Rattle.kola_proof.specs.Drafts.{AreValid, no_draft, FirstBadDraft}
use Rattle.kola_proof.specs.declared.fault.StepWhy.{StepWhy}
use Rattle.kola_top.specs.StageLine.{at_rules}
use Rattle.kola_top.proofs.Staged.{Decides}
use Rattle.kola_top.proofs.AnswerExists.{some_answer, not_none}
use Rattle.kola_top.proofs.AnswerLaws.{one_answer}
use Rattle.kola_top.proofs.answer_laws.a_job_has_exactly_one_answer.Goals as goal

pub returns-clause-one : goal.returns-clause-one
returns-clause-one c = one_answer

stage_decides : (S : Classes) (ds : List DraftTree) → AreValid S laws ds ⊎ ((name : List ℕ) × (step : ℕ) × (why : StepWhy) × FirstBadDraft S laws ds name step why) → Decides (at_rules S ds)
stage_decides S ds (inl v) = inr (tt, v)
stage_decides S ds (inr b) = inl ((b.0, b.1, b.2), b.3)

pub returns-clause-some : goal.returns-clause-some
returns-clause-some c = λ words job d. some_answer words job (λ a r. stage_decides r.before.classes r.drafts (d a r))

pub returns-clause-decided : goal.returns-clause-decided
returns-clause-decided c = λ words job h a r. inl (subst (AreValid r.before.classes laws) (sym (h a r)) no_draft)

pub returns-clause-not_none : goal.returns-clause-not_none
returns-clause-not_none c = not_none

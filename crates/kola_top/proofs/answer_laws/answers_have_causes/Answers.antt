use Rattle.kola_top.proofs.CauseLaws as laws
use Rattle.kola_top.proofs.answer_laws.answers_have_causes.Goals as goal

pub returns : goal.returns
returns c = laws.answers_have_causes

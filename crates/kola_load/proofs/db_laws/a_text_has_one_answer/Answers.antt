use Rattle.kola_load.proofs.FirstFault.{an_answer, one_answer}
use Rattle.kola_load.proofs.db_laws.a_text_has_one_answer.Goals as goal

pub returns-clause-an_answer : goal.returns-clause-an_answer
returns-clause-an_answer c = an_answer

pub returns-clause-one_answer : goal.returns-clause-one_answer
returns-clause-one_answer c = one_answer

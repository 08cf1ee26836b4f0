use Rattle.kola_proof.proofs.Checked.{proved_rules_hold}
use Rattle.kola_proof.proofs.facts.proved_rules_hold.Goals as goal

pub returns : goal.returns
returns c = λ S ok rules d h v. proved_rules_hold S ok rules d h v

use Rattle.kola_proof.proofs.Faults.{draft_some, draft_not_both, draft_one}
use Rattle.kola_proof.proofs.facts.a_draft_is_valid_or_has_one_first_fault.Goals as goal

pub returns : goal.returns
returns c = record {
  some = λ S rules d no bad. draft_some S rules d no bad;
  not_both = λ S rules d n w v b. draft_not_both S rules d v b;
  one = λ S rules d n m w v b e. draft_one S rules d b e;
}

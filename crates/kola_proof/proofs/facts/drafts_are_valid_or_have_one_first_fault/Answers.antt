use Rattle.kola_proof.proofs.FileFaults.{file_some, file_not_both, file_one}
use Rattle.kola_proof.proofs.facts.drafts_are_valid_or_have_one_first_fault.Goals as goal

pub returns : goal.returns
returns c = record {
  some = λ S rules ds no bad. file_some S rules ds no bad;
  not_both = λ S rules ds m n w v b. file_not_both S v b;
  one = λ S rules ds m k n j w v b e. file_one S b e;
}

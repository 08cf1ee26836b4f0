use Rattle.kola_values.proofs.Members.{contains_canon, one_rising_list, has_exactly}
use Rattle.kola_values.proofs.Anys.{rising}
use Rattle.kola_values.proofs.laws.members_make_one_rising_list.Goals as goal

pub returns : goal.returns
returns c = record {
  rising = λ vs. (rising vs, contains_canon vs);
  one = λ vs ws h. one_rising_list vs ws h;
  member = λ v vs. has_exactly v vs;
}

use Rattle.kola_eval.proofs.Reordered.{value_kept, truth_kept, visits_kept, checks_kept}
use Rattle.kola_eval.proofs.laws.the_order_of_objects_does_not_matter.Goals as goal

pub returns : goal.returns
returns c = record { value = value_kept; truth = truth_kept; visits = visits_kept; pred_visits = checks_kept }

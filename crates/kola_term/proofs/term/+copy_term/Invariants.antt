use Rattle.std.proofs.Common.{◌+◌, ◌*◌}
use Rattle.kola_term.specs.TermView.{fun_tree, pred_tree}
use Rattle.kola_term.proofs.Weights.{fun_weight, pred_weight}
use Rattle.kola_term.proofs.term.+copy_term.Given as goal

abbrev pub decreases-Fun::copy : goal.decreases-Fun::copy
decreases-Fun::copy l = 3 * fun_weight (fun_tree l.self.now)

abbrev pub decreases-Pred::copy : goal.decreases-Pred::copy
decreases-Pred::copy l = 3 * pred_weight (pred_tree l.self.now)

abbrev pub decreases-copy_fun : goal.decreases-copy_fun
decreases-copy_fun l = 3 * fun_weight (fun_tree l.f.now.value) + 1

abbrev pub decreases-copy_pred : goal.decreases-copy_pred
decreases-copy_pred l = 3 * pred_weight (pred_tree l.p.now.value) + 1

abbrev pub decreases-copy_funs : goal.decreases-copy_funs
decreases-copy_funs l = 3 * (fun_weight (fun_tree l.f.now.value) + fun_weight (fun_tree l.g.now.value)) + 2

abbrev pub decreases-copy_fun_and_const : goal.decreases-copy_fun_and_const
decreases-copy_fun_and_const l = 3 * (fun_weight (fun_tree l.f.now.value)) + 2

abbrev pub decreases-copy_pred_and_fun : goal.decreases-copy_pred_and_fun
decreases-copy_pred_and_fun l = 3 * (pred_weight (pred_tree l.p.now.value) + fun_weight (fun_tree l.f.now.value)) + 2

abbrev pub decreases-copy_choice : goal.decreases-copy_choice
decreases-copy_choice l = 3 * (pred_weight (pred_tree l.p.now.value) + fun_weight (fun_tree l.f.now.value) + fun_weight (fun_tree l.g.now.value)) + 2

abbrev pub decreases-copy_preds : goal.decreases-copy_preds
decreases-copy_preds l = 3 * (pred_weight (pred_tree l.p.now.value) + pred_weight (pred_tree l.q.now.value)) + 2

abbrev pub decreases-copy_pred_and_const : goal.decreases-copy_pred_and_const
decreases-copy_pred_and_const l = 3 * (pred_weight (pred_tree l.p.now.value)) + 2

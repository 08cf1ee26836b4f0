use Rattle.std.proofs.Common.{◌+◌, ◌*◌, length}
use Rattle.kola_term.proofs.place.+put_in.Given as goal

abbrev pub decreases-put_in_fun : goal.decreases-put_in_fun
decreases-put_in_fun l = 3 * (length l.path.now)

abbrev pub decreases-put_in_pred : goal.decreases-put_in_pred
decreases-put_in_pred l = 3 * (length l.path.now)

abbrev pub decreases-put_below_fun : goal.decreases-put_below_fun
decreases-put_below_fun l = 3 * (length l.rest.now) + 2

abbrev pub decreases-put_below_pred : goal.decreases-put_below_pred
decreases-put_below_pred l = 3 * (length l.rest.now) + 2

abbrev pub decreases-put_in_funs : goal.decreases-put_in_funs
decreases-put_in_funs l = 3 * (length l.rest.now) + 1

abbrev pub decreases-put_in_fun_or_const : goal.decreases-put_in_fun_or_const
decreases-put_in_fun_or_const l = 3 * (length l.rest.now) + 1

abbrev pub decreases-put_in_pred_or_fun : goal.decreases-put_in_pred_or_fun
decreases-put_in_pred_or_fun l = 3 * (length l.rest.now) + 1

abbrev pub decreases-put_in_choice : goal.decreases-put_in_choice
decreases-put_in_choice l = 3 * (length l.rest.now) + 1

abbrev pub decreases-put_in_preds : goal.decreases-put_in_preds
decreases-put_in_preds l = 3 * (length l.rest.now) + 1

abbrev pub decreases-put_in_pred_or_const : goal.decreases-put_in_pred_or_const
decreases-put_in_pred_or_const l = 3 * (length l.rest.now) + 1

abbrev pub decreases-put_in_only_pred : goal.decreases-put_in_only_pred
decreases-put_in_only_pred l = 3 * (length l.rest.now) + 1

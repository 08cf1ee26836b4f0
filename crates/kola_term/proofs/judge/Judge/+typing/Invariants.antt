use Rattle.std.proofs.Common.{◌+◌, ◌*◌}
use Rattle.kola_term.specs.TermView.{fun_tree, pred_tree}
use Rattle.kola_term.proofs.Weights.{fun_weight, pred_weight}
use Rattle.kola_term.proofs.judge.Judge.+typing.Given as goal

abbrev pub decreases-fun : goal.decreases-fun
decreases-fun l = 4 * (fun_weight (fun_tree l.f.now))

abbrev pub decreases-pred : goal.decreases-pred
decreases-pred l = 4 * (pred_weight (pred_tree l.p.now))

abbrev pub decreases-fun_under : goal.decreases-fun_under
decreases-fun_under l = 4 * (fun_weight (fun_tree l.f.now)) + 1

abbrev pub decreases-pred_under : goal.decreases-pred_under
decreases-pred_under l = 4 * (pred_weight (pred_tree l.p.now)) + 1

abbrev pub decreases-comp : goal.decreases-comp
decreases-comp l = 4 * (fun_weight (fun_tree l.f.now) + fun_weight (fun_tree l.g.now)) + 2

abbrev pub decreases-pair_of : goal.decreases-pair_of
decreases-pair_of l = 4 * (fun_weight (fun_tree l.f.now) + fun_weight (fun_tree l.g.now)) + 2

abbrev pub decreases-times : goal.decreases-times
decreases-times l = 4 * (fun_weight (fun_tree l.f.now) + fun_weight (fun_tree l.g.now)) + 2

abbrev pub decreases-partial : goal.decreases-partial
decreases-partial l = 4 * (fun_weight (fun_tree l.f.now)) + 2

abbrev pub decreases-choice : goal.decreases-choice
decreases-choice l = 4 * (pred_weight (pred_tree l.p.now) + fun_weight (fun_tree l.f.now) + fun_weight (fun_tree l.g.now)) + 2

abbrev pub decreases-set_over : goal.decreases-set_over
decreases-set_over l = 4 * (pred_weight (pred_tree l.p.now) + fun_weight (fun_tree l.f.now)) + 2

abbrev pub decreases-iterate : goal.decreases-iterate
decreases-iterate l = 4 * (pred_weight (pred_tree l.p.now) + fun_weight (fun_tree l.f.now)) + 3

abbrev pub decreases-iter : goal.decreases-iter
decreases-iter l = 4 * (pred_weight (pred_tree l.p.now) + fun_weight (fun_tree l.f.now)) + 3

abbrev pub decreases-join : goal.decreases-join
decreases-join l = 4 * (pred_weight (pred_tree l.p.now) + fun_weight (fun_tree l.f.now)) + 3

abbrev pub decreases-nest : goal.decreases-nest
decreases-nest l = 4 * (fun_weight (fun_tree l.f.now) + fun_weight (fun_tree l.g.now)) + 2

abbrev pub decreases-unnest : goal.decreases-unnest
decreases-unnest l = 4 * (fun_weight (fun_tree l.f.now) + fun_weight (fun_tree l.g.now)) + 2

abbrev pub decreases-pred_at : goal.decreases-pred_at
decreases-pred_at l = 4 * (pred_weight (pred_tree l.p.now) + fun_weight (fun_tree l.f.now)) + 2

abbrev pub decreases-both : goal.decreases-both
decreases-both l = 4 * (pred_weight (pred_tree l.p.now) + pred_weight (pred_tree l.q.now)) + 2

abbrev pub decreases-inverse : goal.decreases-inverse
decreases-inverse l = 4 * (pred_weight (pred_tree l.p.now)) + 2

abbrev pub decreases-partial_pred : goal.decreases-partial_pred
decreases-partial_pred l = 4 * (pred_weight (pred_tree l.p.now)) + 2

abbrev pub decreases-quantified : goal.decreases-quantified
decreases-quantified l = 4 * (pred_weight (pred_tree l.p.now)) + 2

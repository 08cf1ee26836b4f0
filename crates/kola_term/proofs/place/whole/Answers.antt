use Rattle.std.proofs.Common.{ap}
use Rattle.kola_term.specs.TermView.{const_tree, fun_tree, pred_tree}
use Rattle.kola_term.specs.Parts.{sub_tree}
use Rattle.kola_term.proofs.Replaced.{whole_fun, whole_pred, whole_const}
use Rattle.kola_term.proofs.place.whole.Goals as goal

pub returns-in_ok-f-in-F-F : goal.returns-in_ok-f-in-F-F
returns-in_ok-f-in-F-F c =
    whole_fun (sub_tree c.args.t) (sub_tree c.args.new) (fun_tree c.in-F-F.field-0-0.now) (fun_tree c.in-F-F.f.now) (fun_tree c.in_ok-f-in-F-F.f)
    (ap sub_tree c.in-F-F.is-0) (ap sub_tree c.in-F-F.is-1) c.in_ok-f-in-F-F.ensures

pub returns-in_ok-p-in-P-P : goal.returns-in_ok-p-in-P-P
returns-in_ok-p-in-P-P c =
    whole_pred (sub_tree c.args.t) (sub_tree c.args.new) (pred_tree c.in-P-P.field-0-0.now) (pred_tree c.in-P-P.p.now) (pred_tree c.in_ok-p-in-P-P.p)
    (ap sub_tree c.in-P-P.is-0) (ap sub_tree c.in-P-P.is-1) c.in_ok-p-in-P-P.ensures

pub returns-in_ok-c-in-C-C : goal.returns-in_ok-c-in-C-C
returns-in_ok-c-in-C-C c =
    whole_const (sub_tree c.args.t) (sub_tree c.args.new) (const_tree c.in-C-C.field-0-0.now) (const_tree c.in-C-C.c.now) (const_tree c.in_ok-c-in-C-C.c)
    (ap sub_tree c.in-C-C.is-0) (ap sub_tree c.in-C-C.is-1) c.in_ok-c-in-C-C.ensures

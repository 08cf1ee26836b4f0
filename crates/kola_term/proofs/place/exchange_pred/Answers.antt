use Rattle.std.proofs.Common.{refl, ap}
use Rattle.kola_term.specs.Terms.{TermP}
use Rattle.kola_term.specs.TermView.{pred_tree}
use Rattle.kola_term.specs.Parts.{sub_tree}
use Rattle.kola_term.proofs.Replaced.{whole_pred}
use Rattle.kola_term.proofs.place.exchange_pred.Goals as goal

pub returns : goal.returns
returns c =
    whole_pred (TermP (pred_tree c.args.p.now.value)) (sub_tree c.args.new) (pred_tree c.args.p.now.value) (pred_tree c.in-P.new.now) (pred_tree c.in_ok-copied.copied.value) refl
    (ap sub_tree c.in-P.is) c.in_ok-copied.ensures

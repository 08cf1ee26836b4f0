use Rattle.std.proofs.Common.{refl, ap}
use Rattle.kola_term.specs.Terms.{TermC}
use Rattle.kola_term.specs.TermView.{const_tree}
use Rattle.kola_term.specs.Parts.{sub_tree}
use Rattle.kola_term.proofs.Replaced.{whole_const}
use Rattle.kola_term.proofs.place.exchange_const.Goals as goal

pub returns : goal.returns
returns c =
    whole_const (TermC (const_tree c.args.c.now)) (sub_tree c.args.new) (const_tree c.args.c.now) (const_tree c.in-C.new.now) (const_tree c.in_ok-copied.copied) refl
    (ap sub_tree c.in-C.is) c.in_ok-copied.ensures

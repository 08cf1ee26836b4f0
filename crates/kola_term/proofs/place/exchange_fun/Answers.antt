use Rattle.std.proofs.Common.{refl, ap}
use Rattle.kola_term.specs.Terms.{TermF}
use Rattle.kola_term.specs.TermView.{fun_tree}
use Rattle.kola_term.specs.Parts.{sub_tree}
use Rattle.kola_term.proofs.Replaced.{whole_fun}
use Rattle.kola_term.proofs.place.exchange_fun.Goals as goal

pub returns : goal.returns
returns c =
    whole_fun (TermF (fun_tree c.args.f.now.value)) (sub_tree c.args.new) (fun_tree c.args.f.now.value) (fun_tree c.in-F.new.now) (fun_tree c.in_ok-copied.copied.value) refl
    (ap sub_tree c.in-F.is) c.in_ok-copied.ensures

use Rattle.std.proofs.Common.{sym, ap, ◌∙◌}
use Rattle.kola_term.specs.Places.{sub_at}
use Rattle.kola_term.proofs.Inversions.{some_same}
use Rattle.kola_match.specs.Substitutions.{inst}
use Rattle.kola_match.specs.Occurring.{variable}
use Rattle.kola_match.proofs.Commute.{sub_inst}
use Rattle.kola_match.proofs.facts.instances_of_one_term_agree.Goals as goal

pub returns : goal.returns
returns c = λ s o p t v e f h.
    let w = variable v.0 v.1 in
    some_same (inst s w) (inst o w) (sym (sub_inst s h.0 p w h.1) ∙ (ap (λ z. sub_at z h.0) (e ∙ sym f) ∙ sub_inst o h.0 p w h.1))

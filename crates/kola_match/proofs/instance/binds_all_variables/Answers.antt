use Rattle.std.proofs.Common.{◌≡◌, ◌↔◌, true, ℕ, List, subst}
use Rattle.kola_values.specs.Sets.{Each}
use Rattle.kola_term.specs.Typing.{MetaTree}
use Rattle.kola_term.specs.ContextView.{context_of}
use Rattle.kola_term.specs.TermView.{term_tree}
use Rattle.kola_match.specs.Occurring.{Occurs}
use Rattle.kola_match.proofs.InstanceConditions.{either_way}
use Rattle.kola_match.proofs.instance.binds_all_variables.Goals as goal

pub returns : goal.returns
returns c =
    let vars = context_of c.args.rule.now.vars in
    let r = either_way (term_tree c.side_of-side.result.now) vars in
    subst (λ z. (c.in_ok-all.all ≡ true) ↔ Each (λ (v : List ℕ × MetaTree). Occurs z v) vars) c.side_of-side.ensures (λ h. r.0 (c.in_ok-all.ensures.0 h), λ h. c.in_ok-all.ensures.1 (r.1 h))

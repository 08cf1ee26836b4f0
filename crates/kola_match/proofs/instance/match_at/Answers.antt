use Rattle.std.proofs.Common.{[], ◌∷◌, sym, subst}
use Rattle.kola_term.specs.ContextView.{context_of}
use Rattle.kola_term.specs.Parts.{sub_tree}
use Rattle.kola_match.specs.Spotting.{AllOccurOn}
use Rattle.kola_match.proofs.InstanceConditions.{all_declared, occur_on}
use Rattle.kola_match.proofs.instance.match_at.Goals as goal

pub instance_of-requires-clause-occur : goal.instance_of-requires-clause-occur
instance_of-requires-clause-occur c =
    let vars = context_of c.args.rule.now.vars in
    subst (λ z. AllOccurOn ((z, sub_tree c.args.t) ∷ []) vars) (sym c.pattern_of.ensures) (occur_on _ (sub_tree c.args.t) vars c.requires.occur)

pub instance_of-requires-clause-declared : goal.instance_of-requires-clause-declared
instance_of-requires-clause-declared c = all_declared (context_of c.args.rule.now.vars) c.requires.ok.distinct

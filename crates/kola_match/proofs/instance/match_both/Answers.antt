use Rattle.std.proofs.Common.{[], ◌∷◌, sym, subst}
use Rattle.kola_term.specs.ContextView.{context_of}
use Rattle.kola_term.specs.Parts.{sub_tree}
use Rattle.kola_rule.specs.RuleViews.{rule_tree}
use Rattle.kola_match.specs.Instances.{pattern_side}
use Rattle.kola_match.specs.Spotting.{AllOccurOn}
use Rattle.kola_match.proofs.InstanceConditions.{all_declared, occur_on_either}
use Rattle.kola_match.proofs.instance.match_both.Goals as goal

pub instance_of-requires-clause-occur : goal.instance_of-requires-clause-occur
instance_of-requires-clause-occur c =
    let vars = context_of c.args.rule.now.vars in
    let r = rule_tree c.args.rule.now in
    let t = sub_tree c.args.t1 in
    let u = sub_tree c.args.t2 in
    subst (λ z. AllOccurOn ((z, t) ∷ (sub_tree c.other_of.result, u) ∷ []) vars) (sym c.pattern_of.ensures)
    (subst (λ z. AllOccurOn ((pattern_side r c.args.rev, t) ∷ (z, u) ∷ []) vars) (sym c.other_of.ensures) (occur_on_either r c.args.rev t u vars c.requires.ok.occur))

pub instance_of-requires-clause-declared : goal.instance_of-requires-clause-declared
instance_of-requires-clause-declared c = all_declared (context_of c.args.rule.now.vars) c.requires.ok.distinct

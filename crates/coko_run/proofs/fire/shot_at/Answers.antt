use Rattle.std.proofs.Common.{[], ◌∷◌, Some, None, sym, subst, option_map}
use Rattle.kola_values.specs.Views.{type_tree}
use Rattle.kola_term.specs.ContextView.{context_of}
use Rattle.kola_term.specs.Parts.{sub_tree}
use Rattle.kola_term.specs.Places.{Typed}
use Rattle.kola_term.specs.TermView.{term_tree}
use Rattle.kola_rule.specs.RuleViews.{rule_tree}
use Rattle.kola_match.specs.Binds.{substitution_of}
use Rattle.kola_match.specs.Instances.{Decided, pattern_side}
use Rattle.kola_match.specs.SubstViews.{found_binds}
use Rattle.coko_run.proofs.Cases.{if_none, if_some, clash}
use Rattle.coko_run.proofs.Fired.{all_occur, part_typed, found_instance, found_none, not_shown, hit_place}
use Rattle.coko_run.proofs.fire.shot_at.Goals as goal

pub returns-in_default : goal.returns-in_default
returns-in_default c = λ c' h. if_none _ c.in_default.is c.in_ok-input.ensures.none (hit_place c.args.schema.now (rule_tree c.args.rule.now) c.args.rev (term_tree c.args.whole.now) c.args.path.now c' c.requires.rule h)

pub match_at-requires-clause-occur : goal.match_at-requires-clause-occur
match_at-requires-clause-occur c = all_occur c.args.schema.now (rule_tree c.args.rule.now) c.args.rev c.requires.rule c.requires.covers

pub match_at-requires-clause-typed : goal.match_at-requires-clause-typed
match_at-requires-clause-typed c =
    subst (λ z. Typed c.args.schema.now (context_of z) (sub_tree c.args.part) (type_tree c.in-Some.input)) (sym c.new-none.ensures)
    (part_typed c.args.schema.now (term_tree c.args.whole.now) (sub_tree c.args.part) c.args.path.now (type_tree c.in-Some.input) c.requires.fits c.requires.part (if_some _ _ _ c.in-Some.is c.in_ok-input.ensures.some))

pub returns-in_default-2 : goal.returns-in_default-2
returns-in_default-2 c =
    let S = c.args.schema.now in
    let r = rule_tree c.args.rule.now in
    let T = type_tree c.in-Some.input in
    found_none S r c.args.rev (term_tree c.args.whole.now) c.args.path.now T (sub_tree c.args.part) (if_some _ _ _ c.in-Some.is c.in_ok-input.ensures.some) c.requires.part
    (subst (λ z. Decided S (context_of z) r.vars r.input T ((pattern_side r c.args.rev, sub_tree c.args.part) ∷ []) None) c.new-none.ensures
    (subst (λ o. Decided S (context_of c.new-none.result) r.vars r.input T ((pattern_side r c.args.rev, sub_tree c.args.part) ∷ []) (option_map found_binds o)) c.in_default-2.is c.in_ok-s.ensures.found))

pub returns-then-not-branch : goal.returns-then-not-branch
returns-then-not-branch c =
    let S = c.args.schema.now in
    let r = rule_tree c.args.rule.now in
    let T = type_tree c.in-Some.input in
    let i = found_instance S r c.args.rev (term_tree c.args.whole.now) c.args.path.now T (sub_tree c.args.part) (found_binds c.in-Some-2.s) (if_some _ _ _ c.in-Some.is c.in_ok-input.ensures.some) c.requires.part
    (subst (λ z. Decided S (context_of z) r.vars r.input T ((pattern_side r c.args.rev, sub_tree c.args.part) ∷ []) (Some (found_binds c.in-Some-2.s))) c.new-none.ensures
    (subst (λ o. Decided S (context_of c.new-none.result) r.vars r.input T ((pattern_side r c.args.rev, sub_tree c.args.part) ∷ []) (option_map found_binds o)) c.in-Some-2.is c.in_ok-s.ensures.found)) in
    not_shown S r c.args.rev (term_tree c.args.whole.now) c.args.path.now (substitution_of (found_binds c.in-Some-2.s)) c.well_formed-2.ensures c.requires.rule c.requires.covers i (λ h. clash _ (c.in_ok-are_shown.ensures.1 h) c.if-not-branch.true)

pub shot_by-requires-clause-by : goal.shot_by-requires-clause-by
shot_by-requires-clause-by c =
    let S = c.args.schema.now in
    let r = rule_tree c.args.rule.now in
    let T = type_tree c.in-Some.input in
    found_instance S r c.args.rev (term_tree c.args.whole.now) c.args.path.now T (sub_tree c.args.part) (found_binds c.in-Some-2.s) (if_some _ _ _ c.in-Some.is c.in_ok-input.ensures.some) c.requires.part
    (subst (λ z. Decided S (context_of z) r.vars r.input T ((pattern_side r c.args.rev, sub_tree c.args.part) ∷ []) (Some (found_binds c.in-Some-2.s))) c.new-none.ensures
    (subst (λ o. Decided S (context_of c.new-none.result) r.vars r.input T ((pattern_side r c.args.rev, sub_tree c.args.part) ∷ []) (option_map found_binds o)) c.in-Some-2.is c.in_ok-s.ensures.found))

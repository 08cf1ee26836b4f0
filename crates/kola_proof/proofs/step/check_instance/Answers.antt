use Rattle.std.proofs.Common.{◌≡◌, true, false, Some, [], ◌∷◌, sym, subst, ◌∙◌, option_map}
use Rattle.kola_values.specs.Views.{type_tree}
use Rattle.kola_term.specs.ContextView.{context_of}
use Rattle.kola_term.specs.Parts.{sub_tree}
use Rattle.kola_term.specs.TermView.{term_tree}
use Rattle.kola_rule.specs.RuleViews.{rule_tree}
use Rattle.kola_match.specs.Binds.{substitution_of}
use Rattle.kola_match.specs.Instances.{pattern_side, other_side, Decided}
use Rattle.kola_match.specs.SubstViews.{found_binds}
use Rattle.kola_match.proofs.Closed.{schema_closed}
use Rattle.kola_proof.specs.Outside.{both_trees, AreParts}
use Rattle.kola_proof.proofs.ByLaw.{moved_parts, part_before, part_after, none_by, found_by, not_shown_by}
use Rattle.kola_proof.proofs.step.check_instance.Goals as goal

pub match_both-requires-clause-first : goal.match_both-requires-clause-first
match_both-requires-clause-first c =
    let parts = moved_parts (sub_tree c.as_part.result) (term_tree c.args.before.now) (sub_tree c.as_part-2.result) (term_tree c.args.step.now.term) c.as_slice.result.now c.args.step.now.path (Some (sub_tree c.in-Some.from, sub_tree c.in-Some.to)) c.as_part.ensures c.as_part-2.ensures c.as_slice.ensures
    (subst (λ o. AreParts (sub_tree c.as_part.result) (sub_tree c.as_part-2.result) c.as_slice.result.now (option_map both_trees o)) c.in-Some.is c.parts_at.ensures) in
    part_before c.args.schema.now (context_of c.args.rule.now.vars) (type_tree c.args.rule.now.input) (type_tree c.args.input.now) (rule_tree c.args.law.now) c.args.step.now.rev c.args.step.now.path (term_tree c.args.before.now) (term_tree c.args.step.now.term) (sub_tree c.in-Some.from) (sub_tree c.in-Some.to) c.requires.input parts c.requires.before

pub match_both-requires-clause-second : goal.match_both-requires-clause-second
match_both-requires-clause-second c =
    let parts = moved_parts (sub_tree c.as_part.result) (term_tree c.args.before.now) (sub_tree c.as_part-2.result) (term_tree c.args.step.now.term) c.as_slice.result.now c.args.step.now.path (Some (sub_tree c.in-Some.from, sub_tree c.in-Some.to)) c.as_part.ensures c.as_part-2.ensures c.as_slice.ensures
    (subst (λ o. AreParts (sub_tree c.as_part.result) (sub_tree c.as_part-2.result) c.as_slice.result.now (option_map both_trees o)) c.in-Some.is c.parts_at.ensures) in
    part_after c.args.schema.now (context_of c.args.rule.now.vars) (type_tree c.args.rule.now.input) (type_tree c.args.input.now) (rule_tree c.args.law.now) c.args.step.now.rev c.args.step.now.path (term_tree c.args.before.now) (term_tree c.args.step.now.term) (sub_tree c.in-Some.from) (sub_tree c.in-Some.to) c.requires.input parts c.requires.after

pub returns-in_default-2 : goal.returns-in_default-2
returns-in_default-2 c =
    let S = c.args.schema.now in
    let x = context_of c.args.rule.now.vars in
    let law = rule_tree c.args.law.now in
    let parts = moved_parts (sub_tree c.as_part.result) (term_tree c.args.before.now) (sub_tree c.as_part-2.result) (term_tree c.args.step.now.term) c.as_slice.result.now c.args.step.now.path (Some (sub_tree c.in-Some.from, sub_tree c.in-Some.to)) c.as_part.ensures c.as_part-2.ensures c.as_slice.ensures
    (subst (λ o. AreParts (sub_tree c.as_part.result) (sub_tree c.as_part-2.result) c.as_slice.result.now (option_map both_trees o)) c.in-Some.is c.parts_at.ensures) in
    none_by S x (type_tree c.args.rule.now.input) (type_tree c.args.input.now) law c.args.step.now.rev c.args.step.now.path (term_tree c.args.before.now) (term_tree c.args.step.now.term) (sub_tree c.in-Some.from) (sub_tree c.in-Some.to) c.requires.input parts
    (subst (λ o. Decided S x law.vars law.input (type_tree c.args.input.now) ((pattern_side law c.args.step.now.rev, sub_tree c.in-Some.from) ∷ (other_side law c.args.step.now.rev, sub_tree c.in-Some.to) ∷ []) (option_map found_binds o)) c.in_default-2.is c.in_ok-s.ensures.found)

pub returns-then-not-branch : goal.returns-then-not-branch
returns-then-not-branch c =
    let S = c.args.schema.now in
    let x = context_of c.args.rule.now.vars in
    let law = rule_tree c.args.law.now in
    let found = found_binds c.in-Some-2.s in
    let parts = moved_parts (sub_tree c.as_part.result) (term_tree c.args.before.now) (sub_tree c.as_part-2.result) (term_tree c.args.step.now.term) c.as_slice.result.now c.args.step.now.path (Some (sub_tree c.in-Some.from, sub_tree c.in-Some.to)) c.as_part.ensures c.as_part-2.ensures c.as_slice.ensures
    (subst (λ o. AreParts (sub_tree c.as_part.result) (sub_tree c.as_part-2.result) c.as_slice.result.now (option_map both_trees o)) c.in-Some.is c.parts_at.ensures) in
    let d = subst (λ o. Decided S x law.vars law.input (type_tree c.args.input.now) ((pattern_side law c.args.step.now.rev, sub_tree c.in-Some.from) ∷ (other_side law c.args.step.now.rev, sub_tree c.in-Some.to) ∷ []) (option_map found_binds o)) c.in-Some-2.is c.in_ok-s.ensures.found in (
      substitution_of found,
      found_by S x (type_tree c.args.rule.now.input) (type_tree c.args.input.now) law c.args.step.now.rev c.args.step.now.path (term_tree c.args.before.now) (term_tree c.args.step.now.term) (sub_tree c.in-Some.from) (sub_tree c.in-Some.to) c.requires.input parts found d,
      not_shown_by S x (type_tree c.args.rule.now.input) (type_tree c.args.input.now) law c.args.step.now.rev c.args.step.now.path (term_tree c.args.before.now) (term_tree c.args.step.now.term) (sub_tree c.in-Some.from) (sub_tree c.in-Some.to) c.requires.input parts found d
          (schema_closed S c.well_formed-2.ensures) c.requires.law c.args.rule.now.when (λ h. let k : true ≡ false = sym (c.in_ok-are_conditions_shown.ensures.1 h) ∙ c.if-not-branch.true in cc),
    )

use Rattle.std.proofs.Common.{◌≡◌, ◌<◌, length, get_or, refl, sym, ◌∙◌, subst}
use Rattle.kola_core.proofs.Lists.{seen, longer}
use Rattle.kola_term.specs.ContextView.{context_of, meta_entry}
use Rattle.kola_term.specs.TermView.{term_tree}
use Rattle.kola_match.specs.RuleChecks.{OccursOnASide}
use Rattle.kola_match.proofs.RuleLaws.{one_more, at_place}
use Rattle.kola_match.proofs.well_typed.all_occur.Goals as goal

pub returns-then-not-branch : goal.returns-then-not-branch
returns-then-not-branch c =
    let us = context_of c.args.vars.now in
    let i = c.loop-name.name-index in
    let v = c.loop-name-item.result in
    let p = subst (λ z. i < length z) c.as_slice-name-items.ensures c.loop-name-test.true in
    let e = subst (λ z. v ≡ get_or z i v) c.as_slice-name-items.ensures c.loop-name-item.is in
    (λ k. absurd (cc), λ h. sym c.if-not-branch.true ∙ c.in_ok-occurs.ensures.1 (at_place (OccursOnASide (term_tree c.args.left.now) (term_tree c.args.right.now)) us i (meta_entry v) (longer meta_entry c.args.vars.now us i refl p) (seen meta_entry c.args.vars.now us i v refl p e) h))

pub loop-name-preserved : goal.loop-name-preserved
loop-name-preserved c =
    let us = context_of c.args.vars.now in
    let i = c.loop-name.name-index in
    let v = c.loop-name-item.result in
    let p = subst (λ z. i < length z) c.as_slice-name-items.ensures c.loop-name-test.true in
    let e = subst (λ z. v ≡ get_or z i v) c.as_slice-name-items.ensures c.loop-name-item.is in
    one_more (OccursOnASide (term_tree c.args.left.now) (term_tree c.args.right.now)) us i (meta_entry v) (longer meta_entry c.args.vars.now us i refl p) (seen meta_entry c.args.vars.now us i v refl p e) (c.in_ok-occurs.ensures.0 c.if-not-branch.false) c.loop-name.invariant

use Rattle.std.proofs.Common.{sym, ap, ◌∙◌}
use Rattle.kola_values.specs.Views.{type_tree}
use Rattle.kola_term.specs.TermView.{term_tree, fun_tree, pred_tree}
use Rattle.kola_term.specs.ContextView.{context_of}
use Rattle.kola_match.proofs.BindLaws.{if_ok}
use Rattle.kola_match.proofs.RuleLaws.{functions_are, predicates_are}
use Rattle.kola_match.proofs.well_typed.sides_fit.Goals as goal

pub returns-then-not-branch : goal.returns-then-not-branch
returns-then-not-branch c =
    let k = predicates_are c.args.schema.now (context_of c.args.vars.now) (type_tree c.args.input.now) (term_tree c.args.left.now) (term_tree c.args.right.now) (pred_tree c.in-P-P.p) (pred_tree c.in-P-P.q) (ap term_tree c.in-P-P.is-0) (ap term_tree c.in-P-P.is-1) (c.is_within.ensures.0 c.if-not-is_within.false) (c.is_within-else-not-is_within.ensures.0 c.if-not-is_within-2.false) in
    (λ e. absurd (cc), λ h. sym c.if-not-branch.true ∙ c.in_ok-is_fine-in-P-P.ensures.1 (k.1 h).0)

pub returns-in-F-F : goal.returns-in-F-F
returns-in-F-F c =
    let k = functions_are c.args.schema.now (context_of c.args.vars.now) (type_tree c.args.input.now) (term_tree c.args.left.now) (term_tree c.args.right.now) (fun_tree c.in-F-F.f) (fun_tree c.in-F-F.g) (ap term_tree c.in-F-F.is-0) (ap term_tree c.in-F-F.is-1) (c.is_within.ensures.0 c.if-not-is_within.false) (c.is_within-else-not-is_within.ensures.0 c.if-not-is_within-2.false) in
    if_ok _ _ c.functions_fit.result c.functions_fit.ensures (λ b f. (λ e. k.0 (f.0 e), λ h. f.1 (k.1 h)))

pub returns-else-not-branch : goal.returns-else-not-branch
returns-else-not-branch c =
    let k = predicates_are c.args.schema.now (context_of c.args.vars.now) (type_tree c.args.input.now) (term_tree c.args.left.now) (term_tree c.args.right.now) (pred_tree c.in-P-P.p) (pred_tree c.in-P-P.q) (ap term_tree c.in-P-P.is-0) (ap term_tree c.in-P-P.is-1) (c.is_within.ensures.0 c.if-not-is_within.false) (c.is_within-else-not-is_within.ensures.0 c.if-not-is_within-2.false) in
    if_ok _ _ c.is_fine-in-P-P.result c.is_fine-in-P-P.ensures (λ b f. (λ e. k.0 (c.in_ok-is_fine-in-P-P.ensures.0 c.if-not-branch.false, f.0 e), λ h. f.1 (k.1 h).1))

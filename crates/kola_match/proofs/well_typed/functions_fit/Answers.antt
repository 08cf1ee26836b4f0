use Rattle.std.proofs.Common.{sym, ap, subst, ◌∙◌}
use Rattle.kola_values.specs.Types.{same_type}
use Rattle.kola_values.specs.Views.{type_tree}
use Rattle.kola_term.specs.Terms.{TermF}
use Rattle.kola_term.specs.TermView.{fun_tree}
use Rattle.kola_term.specs.ContextView.{context_of}
use Rattle.kola_term.proofs.Inversions.{same_ty-equal}
use Rattle.kola_term.proofs.Introductions.{same_ty_itself}
use Rattle.kola_match.specs.RuleChecks.{FineType}
use Rattle.kola_match.proofs.RuleLaws.{same_outputs}
use Rattle.kola_match.proofs.well_typed.functions_fit.Goals as goal

pub returns : goal.returns
returns c =
    let S = c.args.schema.now in
    let x = context_of c.args.vars.now in
    let f = fun_tree c.args.f.now in
    let g = fun_tree c.args.g.now in
    let T = type_tree c.args.input.now in
    let u = type_tree c.in-Some.u in
    let w = type_tree c.in-Some-2.w in
    let a = subst (λ z. FineType S x (TermF f) T z) c.in-Some.is c.in_ok-u.ensures in
    let b = subst (λ z. FineType S x (TermF g) T z) c.in-Some-2.is c.in_ok-w.ensures in
    let k = same_outputs S x f g T u w a b in
    (λ h. k.0 (same_ty-equal u w (sym c.is.ensures ∙ h)), λ h. c.is.ensures ∙ (ap (same_type u) (sym (k.1 h)) ∙ same_ty_itself u))

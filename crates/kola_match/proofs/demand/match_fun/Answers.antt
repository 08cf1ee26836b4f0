use Rattle.std.proofs.Common.{◌≡◌, Some, sym, ap, subst, ◌∙◌, option_map}
use Rattle.kola_values.specs.Views.{type_tree}
use Rattle.kola_term.specs.ContextView.{context_of}
use Rattle.kola_term.specs.TermView.{fun_tree}
use Rattle.kola_term.specs.Typing.{out}
use Rattle.kola_match.specs.Substitutions.{sub_type}
use Rattle.kola_match.specs.Finding.{Finds}
use Rattle.kola_match.specs.FoundViews.{binds_of}
use Rattle.kola_match.proofs.BindLaws.{finds_same, finds_then, if_ok}
use Rattle.kola_match.proofs.FieldLaws.{known_demand}
use Rattle.kola_match.proofs.demand.match_fun.Goals as goal

pub returns : goal.returns
returns c =
    let o = out c.args.schema.now (context_of c.args.ctx.now) (fun_tree c.args.f.now) (type_tree c.args.w.now) in
    let e = sym c.in_ok-u.ensures ∙ ap (option_map type_tree) c.in-Some.is in
    let a = binds_of c.args.found.now in
    let b = binds_of c.match_type.new.found in
    let d = binds_of c.match_type-2.new.found in
    let first = subst (λ z. Finds z a b (λ s. sub_type s.types (type_tree c.args.input.now) ≡ type_tree c.args.w.now)) c.if-not-branch.false c.in_ok-match_type.ensures in
    if_ok _ _ c.match_type-2.result c.match_type-2.ensures
    (λ r f. finds_then r a b d (λ s. sub_type s.types (type_tree c.args.input.now) ≡ type_tree c.args.w.now) (λ s. o ≡ Some (sub_type s.types (type_tree c.args.output.now))) first
    (finds_same r b d _ _ (λ s. known_demand o (type_tree c.args.output.now) (type_tree c.in-Some.u) s e) f))

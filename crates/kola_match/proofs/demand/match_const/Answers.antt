use Rattle.std.proofs.Common.{sym, ap, ◌∙◌, option_map}
use Rattle.kola_values.specs.Views.{type_tree}
use Rattle.kola_term.specs.ContextView.{context_of}
use Rattle.kola_term.specs.TermView.{const_tree}
use Rattle.kola_term.specs.Typing.{const_type}
use Rattle.kola_match.specs.FoundViews.{binds_of}
use Rattle.kola_match.proofs.BindLaws.{finds_same, if_ok}
use Rattle.kola_match.proofs.FieldLaws.{known_demand}
use Rattle.kola_match.proofs.demand.match_const.Goals as goal

pub returns : goal.returns
returns c =
    let o = const_type c.args.schema.now (context_of c.args.ctx.now) (const_tree c.args.c.now) in
    let e = sym c.in_ok-u.ensures ∙ ap (option_map type_tree) c.in-Some.is in
    if_ok _ _ c.match_type.result c.match_type.ensures (λ b f. finds_same b (binds_of c.args.found.now) (binds_of c.match_type.new.found) _ _ (λ s. known_demand o (type_tree c.args.ty.now) (type_tree c.in-Some.u) s e) f)

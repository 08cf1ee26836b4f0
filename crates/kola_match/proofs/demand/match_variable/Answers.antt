use Rattle.std.proofs.Common.{Some, sym, ap, subst, ◌∙◌}
use Rattle.kola_values.specs.Views.{type_tree}
use Rattle.kola_term.specs.ContextView.{context_of, meta_tree}
use Rattle.kola_term.specs.TermView.{fun_tree, pred_tree, const_tree}
use Rattle.kola_term.specs.Parts.{sub_tree}
use Rattle.kola_term.specs.Places.{sub_at, place}
use Rattle.kola_match.specs.Demanding.{InputOf}
use Rattle.kola_match.specs.FoundViews.{binds_of}
use Rattle.kola_match.proofs.BindLaws.{if_ok}
use Rattle.kola_match.proofs.DemandLaws.{fun_demands, pred_demands, const_demands}
use Rattle.kola_match.proofs.demand.match_variable.Goals as goal

pub returns-in-Some-2 : goal.returns-in-Some-2
returns-in-Some-2 c =
    let S = c.args.schema.now in
    let x = context_of c.args.ctx.now in
    let t = sub_tree c.args.part in
    let T = type_tree c.args.ty.now in
    let q = c.args.path.now in
    let v = subst (InputOf S x t T q) c.in-Some-2.is c.in_ok-w-in-Fun-F.ensures in
    let here = ap (λ z. Some (sub_tree z)) (sym c.in-Fun-F.is-1) ∙ c.in-Some.ensures in
    if_ok _ _ c.match_fun.result c.match_fun.ensures
    (λ r f. fun_demands S x r (binds_of c.args.found.now) (binds_of c.match_fun.new.found) (meta_tree c.args.meta.now) (sub_at t q) (place S x t T q) (type_tree c.in-Fun-F.input) (type_tree c.in-Fun-F.output) (fun_tree c.in-Fun-F.f.now) (type_tree c.in-Some-2.w) (ap meta_tree c.in-Fun-F.is-0) here v f)

pub returns-in-Some-3 : goal.returns-in-Some-3
returns-in-Some-3 c =
    let S = c.args.schema.now in
    let x = context_of c.args.ctx.now in
    let t = sub_tree c.args.part in
    let T = type_tree c.args.ty.now in
    let q = c.args.path.now in
    let v = subst (InputOf S x t T q) c.in-Some-3.is c.in_ok-w-in-Pred-P.ensures in
    let here = ap (λ z. Some (sub_tree z)) (sym c.in-Pred-P.is-1) ∙ c.in-Some.ensures in
    if_ok _ _ c.match_type.result c.match_type.ensures
    (λ r f. pred_demands S x r (binds_of c.args.found.now) (binds_of c.match_type.new.found) (meta_tree c.args.meta.now) (sub_at t q) (place S x t T q) (type_tree c.in-Pred-P.input) (pred_tree c.in-Pred-P.field-0-1.now) (type_tree c.in-Some-3.w) (ap meta_tree c.in-Pred-P.is-0) here v f)

pub returns-in-Const-C : goal.returns-in-Const-C
returns-in-Const-C c =
    let S = c.args.schema.now in
    let x = context_of c.args.ctx.now in
    let t = sub_tree c.args.part in
    let q = c.args.path.now in
    let here = ap (λ z. Some (sub_tree z)) (sym c.in-Const-C.is-1) ∙ c.in-Some.ensures in
    if_ok _ _ c.match_const.result c.match_const.ensures
    (λ r f. const_demands S x r (binds_of c.args.found.now) (binds_of c.match_const.new.found) (meta_tree c.args.meta.now) (sub_at t q) (place S x t (type_tree c.args.ty.now) q) (type_tree c.in-Const-C.t) (const_tree c.in-Const-C.c.now) (ap meta_tree c.in-Const-C.is-0) here f)

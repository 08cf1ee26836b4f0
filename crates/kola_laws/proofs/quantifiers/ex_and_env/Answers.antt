use Rattle.kola_laws.proofs.quantifiers.ex_and_env.Goals as goal

pub returns : goal.returns
returns c = c.preds.ensures _ _ _ _
    (c.pred_var-vars.ensures _ _ (c.pair_type.ensures _ _ c.ty.ensures c.ty-2.ensures) (c.pred_var.ensures _ _ c.ty-3.ensures c.no_vars.ensures))
    (c.pair_type-input.ensures _ _ c.ty-4.ensures (c.set.ensures _ c.ty-5.ensures))
    (c.some-left.ensures _ (c.and.ensures _ _ c.pred.ensures (c.at.ensures _ _ c.pred-2.ensures c.fst.ensures)))
    (c.and-right.ensures _ _ (c.some.ensures _ c.pred-3.ensures) (c.at-2.ensures _ _ c.pred-4.ensures c.fst-2.ensures))

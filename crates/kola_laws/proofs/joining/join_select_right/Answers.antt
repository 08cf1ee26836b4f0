use Rattle.kola_laws.proofs.joining.join_select_right.Goals as goal

pub returns : goal.returns
returns c = c.funs.ensures _ _ _ _
    (c.pred_var-vars.ensures _ _ (c.pair_type.ensures _ _ c.ty.ensures c.ty-2.ensures) (c.fun_var.ensures _ _ _ (c.pair_type-2.ensures _ _ c.ty-3.ensures c.ty-4.ensures) c.ty-5.ensures (c.pred_var.ensures _ _ c.ty-6.ensures c.no_vars.ensures)))
    (c.pair_type-input.ensures _ _ (c.set.ensures _ c.ty-7.ensures) (c.set-2.ensures _ c.ty-8.ensures))
    (c.join-left.ensures _ _ (c.and.ensures _ _ c.pred.ensures (c.at.ensures _ _ c.pred-2.ensures c.snd.ensures)) c.fun.ensures)
    (c.comp-right.ensures _ _ (c.join.ensures _ _ c.pred-3.ensures c.fun-2.ensures) (c.times.ensures _ _ c.id.ensures (c.iterate.ensures _ _ c.pred-4.ensures c.id-2.ensures)))

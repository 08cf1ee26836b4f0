use Rattle.kola_laws.proofs.iteration.iter_const.Goals as goal

pub returns : goal.returns
returns c = c.funs.ensures _ _ _ _
    (c.pred_var-vars.ensures _ _ (c.pair_type.ensures _ _ c.ty.ensures c.ty-2.ensures) (c.fun_var-2.ensures _ _ _ (c.pair_type-2.ensures _ _ c.ty-3.ensures c.ty-4.ensures) c.ty-5.ensures (c.const_var.ensures _ _ c.ty-6.ensures (c.fun_var.ensures _ _ _ c.ty-7.ensures (c.set.ensures _ c.ty-8.ensures) c.no_vars.ensures))))
    c.ty-input.ensures
    (c.comp-left.ensures _ _ (c.iter.ensures _ _ c.pred.ensures c.fun.ensures) (c.pair.ensures _ _ (c.always.ensures _ c.constant.ensures) c.fun-2.ensures))
    (c.comp-right.ensures _ _ (c.iterate.ensures _ _ (c.at.ensures _ _ c.pred-2.ensures (c.pair-2.ensures _ _ (c.always-2.ensures _ c.constant-2.ensures) c.id.ensures)) (c.comp.ensures _ _ c.fun-3.ensures (c.pair-3.ensures _ _ (c.always-3.ensures _ c.constant-3.ensures) c.id-2.ensures))) c.fun-4.ensures)

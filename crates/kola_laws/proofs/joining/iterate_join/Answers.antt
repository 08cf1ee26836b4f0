use Rattle.kola_laws.proofs.joining.iterate_join.Goals as goal

pub returns : goal.returns
returns c = c.funs.ensures _ _ _ _
    (c.pred_var-vars.ensures _ _ (c.pair_type.ensures _ _ c.ty.ensures c.ty-2.ensures) (c.fun_var-2.ensures _ _ _ (c.pair_type-2.ensures _ _ c.ty-3.ensures c.ty-4.ensures) c.ty-5.ensures (c.pred_var.ensures _ _ c.ty-6.ensures (c.fun_var.ensures _ _ _ c.ty-7.ensures c.ty-8.ensures c.no_vars.ensures))))
    (c.pair_type-input.ensures _ _ (c.set.ensures _ c.ty-9.ensures) (c.set-2.ensures _ c.ty-10.ensures))
    (c.comp-left.ensures _ _ (c.iterate.ensures _ _ c.pred.ensures c.fun.ensures) (c.join.ensures _ _ c.pred-2.ensures c.fun-2.ensures))
    (c.join-right.ensures _ _ (c.and.ensures _ _ c.pred-3.ensures (c.at.ensures _ _ c.pred-4.ensures c.fun-3.ensures)) (c.comp.ensures _ _ c.fun-4.ensures c.fun-5.ensures))

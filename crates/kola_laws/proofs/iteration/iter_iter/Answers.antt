use Rattle.kola_laws.proofs.iteration.iter_iter.Goals as goal

pub returns : goal.returns
returns c = c.funs.ensures _ _ _ _
    (c.pred_var-vars.ensures _ _ (c.pair_type.ensures _ _ c.ty.ensures c.ty-2.ensures) (c.fun_var-2.ensures _ _ _ (c.pair_type-2.ensures _ _ c.ty-3.ensures c.ty-4.ensures) c.ty-5.ensures (c.pred_var.ensures _ _ (c.pair_type-3.ensures _ _ c.ty-6.ensures c.ty-7.ensures) (c.fun_var.ensures _ _ _ (c.pair_type-4.ensures _ _ c.ty-8.ensures c.ty-9.ensures) c.ty-10.ensures c.no_vars.ensures))))
    (c.pair_type-input.ensures _ _ c.ty-11.ensures (c.set.ensures _ c.ty-12.ensures))
    (c.comp-left.ensures _ _ (c.iter.ensures _ _ c.pred.ensures c.fun.ensures) (c.pair.ensures _ _ c.fst.ensures (c.iter-2.ensures _ _ c.pred-2.ensures c.fun-2.ensures)))
    (c.iter-right.ensures _ _ (c.and.ensures _ _ c.pred-3.ensures (c.at.ensures _ _ c.pred-4.ensures (c.pair-2.ensures _ _ c.fst-2.ensures c.fun-3.ensures))) (c.comp.ensures _ _ c.fun-4.ensures (c.pair-3.ensures _ _ c.fst-3.ensures c.fun-5.ensures)))

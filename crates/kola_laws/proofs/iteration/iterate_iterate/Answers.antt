use Rattle.kola_laws.proofs.iteration.iterate_iterate.Goals as goal

pub returns : goal.returns
returns c = c.funs.ensures _ _ _ _
    (c.pred_var-vars.ensures _ _ c.ty.ensures (c.fun_var-2.ensures _ _ _ c.ty-2.ensures c.ty-3.ensures (c.pred_var.ensures _ _ c.ty-4.ensures (c.fun_var.ensures _ _ _ c.ty-5.ensures c.ty-6.ensures c.no_vars.ensures))))
    (c.set-input.ensures _ c.ty-7.ensures)
    (c.comp-left.ensures _ _ (c.iterate.ensures _ _ c.pred.ensures c.fun.ensures) (c.iterate-2.ensures _ _ c.pred-2.ensures c.fun-2.ensures))
    (c.iterate-right.ensures _ _ (c.and.ensures _ _ c.pred-3.ensures (c.at.ensures _ _ c.pred-4.ensures c.fun-3.ensures)) (c.comp.ensures _ _ c.fun-4.ensures c.fun-5.ensures))

use Rattle.kola_laws.proofs.set_operations.iterate_or.Goals as goal

pub returns : goal.returns
returns c = c.funs.ensures _ _ _ _
    (c.pred_var-vars.ensures _ _ c.ty.ensures (c.pred_var.ensures _ _ c.ty-2.ensures (c.fun_var.ensures _ _ _ c.ty-3.ensures c.ty-4.ensures c.no_vars.ensures)))
    (c.set-input.ensures _ c.ty-5.ensures)
    (c.iterate-left.ensures _ _ (c.or.ensures _ _ c.pred.ensures c.pred-2.ensures) c.fun.ensures)
    (c.comp-right.ensures _ _ c.union.ensures (c.pair.ensures _ _ (c.iterate.ensures _ _ c.pred-3.ensures c.fun-2.ensures) (c.iterate-2.ensures _ _ c.pred-4.ensures c.fun-3.ensures)))

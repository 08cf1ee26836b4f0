use Rattle.kola_laws.proofs.set_operations.iterate_union.Goals as goal

pub returns : goal.returns
returns c = c.funs.ensures _ _ _ _
    (c.pred_var-vars.ensures _ _ c.ty.ensures (c.fun_var.ensures _ _ _ c.ty-2.ensures c.ty-3.ensures c.no_vars.ensures))
    (c.pair_type-input.ensures _ _ (c.set.ensures _ c.ty-4.ensures) (c.set-2.ensures _ c.ty-5.ensures))
    (c.comp-left.ensures _ _ (c.iterate.ensures _ _ c.pred.ensures c.fun.ensures) c.union.ensures)
    (c.comp-right.ensures _ _ c.union-2.ensures (c.times.ensures _ _ (c.iterate-2.ensures _ _ c.pred-2.ensures c.fun-2.ensures) (c.iterate-3.ensures _ _ c.pred-3.ensures c.fun-3.ensures)))

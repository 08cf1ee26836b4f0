use Rattle.kola_laws.proofs.iteration.flat_iterate.Goals as goal

pub returns : goal.returns
returns c = c.funs.ensures _ _ _ _
    (c.pred_var-vars.ensures _ _ c.ty.ensures (c.fun_var.ensures _ _ _ c.ty-2.ensures c.ty-3.ensures c.no_vars.ensures))
    (c.set-input.ensures _ (c.set.ensures _ c.ty-4.ensures))
    (c.comp-left.ensures _ _ c.flat.ensures (c.iterate-2.ensures _ _ c.known.ensures (c.iterate.ensures _ _ c.pred.ensures c.fun.ensures)))
    (c.comp-right.ensures _ _ (c.iterate-3.ensures _ _ c.pred-2.ensures c.fun-2.ensures) c.flat-2.ensures)

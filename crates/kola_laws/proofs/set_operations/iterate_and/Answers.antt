use Rattle.kola_laws.proofs.set_operations.iterate_and.Goals as goal

pub returns : goal.returns
returns c = c.funs.ensures _ _ _ _
    (c.pred_var-vars.ensures _ _ c.ty.ensures (c.pred_var.ensures _ _ c.ty-2.ensures c.no_vars.ensures))
    (c.set-input.ensures _ c.ty-3.ensures)
    (c.iterate-left.ensures _ _ (c.and.ensures _ _ c.pred.ensures c.pred-2.ensures) c.id.ensures)
    (c.comp-right.ensures _ _ c.isect.ensures (c.pair.ensures _ _ (c.iterate.ensures _ _ c.pred-3.ensures c.id-2.ensures) (c.iterate-2.ensures _ _ c.pred-4.ensures c.id-3.ensures)))

use Rattle.kola_laws.proofs.nesting.nest_join.Goals as goal

pub returns : goal.returns
returns c = c.funs.ensures _ _ _ _
    (c.pred_var-vars.ensures _ _ (c.pair_type.ensures _ _ c.ty.ensures c.ty-2.ensures) (c.fun_var.ensures _ _ _ (c.pair_type-2.ensures _ _ c.ty-3.ensures c.ty-4.ensures) c.ty-5.ensures c.no_vars.ensures))
    (c.pair_type-input.ensures _ _ (c.set.ensures _ c.ty-6.ensures) (c.set-2.ensures _ c.ty-7.ensures))
    (c.comp-left.ensures _ _ (c.iter-2.ensures _ _ c.known.ensures (c.pair-2.ensures _ _ c.snd.ensures (c.comp.ensures _ _ (c.iter.ensures _ _ c.pred.ensures c.fun.ensures) (c.pair.ensures _ _ c.snd-2.ensures c.fst.ensures)))) (c.pair-3.ensures _ _ c.snd-3.ensures c.fst-2.ensures))
    (c.comp-right.ensures _ _ (c.nest.ensures _ _ c.fst-3.ensures c.snd-4.ensures) (c.pair-5.ensures _ _ (c.join.ensures _ _ c.pred-2.ensures (c.pair-4.ensures _ _ c.fst-4.ensures c.fun-2.ensures)) c.fst-5.ensures))

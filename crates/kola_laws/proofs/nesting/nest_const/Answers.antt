use Rattle.kola_laws.proofs.nesting.nest_const.Goals as goal

pub returns : goal.returns
returns c = c.funs.ensures _ _ _ _
    (c.pred_var-vars.ensures _ _ (c.pair_type.ensures _ _ c.ty.ensures c.ty-2.ensures) (c.fun_var.ensures _ _ _ (c.pair_type-2.ensures _ _ c.ty-3.ensures c.ty-4.ensures) c.ty-5.ensures (c.const_var-2.ensures _ _ (c.set.ensures _ c.ty-6.ensures) (c.const_var.ensures _ _ (c.set-2.ensures _ c.ty-7.ensures) c.no_vars.ensures))))
    c.ty-input.ensures
    (c.comp-left.ensures _ _ (c.iter-2.ensures _ _ c.known.ensures (c.pair-2.ensures _ _ c.snd.ensures (c.comp.ensures _ _ (c.iter.ensures _ _ c.pred.ensures c.fun.ensures) (c.pair.ensures _ _ c.snd-2.ensures (c.always.ensures _ c.constant.ensures))))) (c.pair-3.ensures _ _ c.id.ensures (c.always-2.ensures _ c.constant-2.ensures)))
    (c.comp-right.ensures _ _ (c.comp-2.ensures _ _ (c.nest.ensures _ _ c.fst.ensures c.snd-3.ensures) (c.pair-5.ensures _ _ (c.join.ensures _ _ c.pred-2.ensures (c.pair-4.ensures _ _ c.fst-2.ensures c.fun-2.ensures)) c.fst-3.ensures)) (c.pair-6.ensures _ _ (c.always-3.ensures _ c.constant-3.ensures) (c.always-4.ensures _ c.constant-4.ensures)))

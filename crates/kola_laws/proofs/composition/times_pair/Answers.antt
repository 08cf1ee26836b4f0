use Rattle.kola_laws.proofs.composition.times_pair.Goals as goal

pub returns : goal.returns
returns c = c.funs.ensures _ _ _ _
    (c.fun_var-vars.ensures _ _ _ c.ty.ensures c.ty-2.ensures (c.fun_var-3.ensures _ _ _ c.ty-3.ensures c.ty-4.ensures (c.fun_var-2.ensures _ _ _ c.ty-5.ensures c.ty-6.ensures (c.fun_var.ensures _ _ _ c.ty-7.ensures c.ty-8.ensures c.no_vars.ensures))))
    c.ty-input.ensures
    (c.comp-left.ensures _ _ (c.times.ensures _ _ c.fun.ensures c.fun-2.ensures) (c.pair.ensures _ _ c.fun-3.ensures c.fun-4.ensures))
    (c.pair-right.ensures _ _ (c.comp.ensures _ _ c.fun-5.ensures c.fun-6.ensures) (c.comp-2.ensures _ _ c.fun-7.ensures c.fun-8.ensures))

use Rattle.kola_laws.proofs.injectivity.isect_inj.Goals as goal

pub returns : goal.returns
returns c = c.when_injective.ensures _ (c.funs.ensures _ _ _ _
    (c.fun_var-vars.ensures _ _ _ c.ty.ensures c.ty-2.ensures c.no_vars.ensures)
    (c.pair_type-input.ensures _ _ (c.set.ensures _ c.ty-3.ensures) (c.set-2.ensures _ c.ty-4.ensures))
    (c.comp-left.ensures _ _ (c.iterate.ensures _ _ c.known.ensures c.fun.ensures) c.isect.ensures)
    (c.comp-right.ensures _ _ c.isect-2.ensures (c.times.ensures _ _ (c.iterate-2.ensures _ _ c.known-2.ensures c.fun-2.ensures) (c.iterate-3.ensures _ _ c.known-3.ensures c.fun-3.ensures))))

use Rattle.kola_laws.proofs.nesting.unnest_def.Goals as goal

pub returns : goal.returns
returns c = c.funs.ensures _ _ _ _
    (c.fun_var-vars.ensures _ _ _ c.ty.ensures c.ty-2.ensures (c.fun_var.ensures _ _ _ c.ty-3.ensures (c.set.ensures _ c.ty-4.ensures) c.no_vars.ensures))
    (c.set-input.ensures _ c.ty-5.ensures)
    (c.unnest-left.ensures _ _ c.fun.ensures c.fun-2.ensures)
    (c.comp-right.ensures _ _ c.flat.ensures (c.iterate.ensures _ _ c.known.ensures (c.comp.ensures _ _ (c.iter.ensures _ _ c.known-2.ensures c.id.ensures) (c.pair.ensures _ _ c.fun-3.ensures c.fun-4.ensures))))

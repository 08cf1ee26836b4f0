use Rattle.kola_laws.proofs.set_operations.union_same.Goals as goal

pub returns : goal.returns
returns c = c.funs.ensures _ _ _ _
    (c.fun_var-vars.ensures _ _ _ c.ty.ensures (c.set.ensures _ c.ty-2.ensures) c.no_vars.ensures)
    c.ty-input.ensures
    (c.comp-left.ensures _ _ c.union.ensures (c.pair.ensures _ _ c.fun.ensures c.fun-2.ensures))
    c.fun-right.ensures

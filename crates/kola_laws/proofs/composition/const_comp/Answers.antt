use Rattle.kola_laws.proofs.composition.const_comp.Goals as goal

pub returns : goal.returns
returns c = c.funs.ensures _ _ _ _
    (c.fun_var-vars.ensures _ _ _ c.ty.ensures c.ty-2.ensures (c.const_var.ensures _ _ c.ty-3.ensures c.no_vars.ensures))
    c.ty-input.ensures
    (c.comp-left.ensures _ _ (c.always.ensures _ c.constant.ensures) c.fun.ensures)
    (c.always-right.ensures _ c.constant-2.ensures)

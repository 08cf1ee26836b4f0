use Rattle.kola_laws.proofs.injectivity.eq_inj.Goals as goal

pub returns : goal.returns
returns c = c.when_injective.ensures _ (c.preds.ensures _ _ _ _
    (c.fun_var-vars.ensures _ _ _ c.ty.ensures c.ty-2.ensures c.no_vars.ensures)
    (c.pair_type-input.ensures _ _ c.ty-3.ensures c.ty-4.ensures)
    (c.at-left.ensures _ _ c.eq.ensures (c.times.ensures _ _ c.fun.ensures c.fun-2.ensures))
    c.eq-right.ensures)

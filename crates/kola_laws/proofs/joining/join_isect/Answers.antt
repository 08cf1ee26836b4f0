use Rattle.kola_laws.proofs.joining.join_isect.Goals as goal

pub returns : goal.returns
returns c = c.funs.ensures _ _ _ _
    c.no_vars-vars.ensures
    (c.pair_type-input.ensures _ _ (c.set.ensures _ c.ty.ensures) (c.set-2.ensures _ c.ty-2.ensures))
    (c.join-left.ensures _ _ c.eq.ensures c.fst.ensures)
    c.isect-right.ensures

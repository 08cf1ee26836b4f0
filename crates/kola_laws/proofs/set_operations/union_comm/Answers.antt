use Rattle.kola_laws.proofs.set_operations.union_comm.Goals as goal

pub returns : goal.returns
returns c = c.funs.ensures _ _ _ _
    c.no_vars-vars.ensures
    (c.pair_type-input.ensures _ _ (c.set.ensures _ c.ty.ensures) (c.set-2.ensures _ c.ty-2.ensures))
    (c.comp-left.ensures _ _ c.union.ensures (c.pair.ensures _ _ c.snd.ensures c.fst.ensures))
    c.union-right.ensures

use Rattle.kola_laws.proofs.iteration.iterate_id.Goals as goal

pub returns : goal.returns
returns c = c.funs.ensures _ _ _ _
    c.no_vars-vars.ensures
    (c.set-input.ensures _ c.ty.ensures)
    (c.iterate-left.ensures _ _ c.known.ensures c.id.ensures)
    c.id-right.ensures

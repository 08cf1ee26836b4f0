use Rattle.std.proofs.Common.{◌++◌, ◌∷◌, [], ◌∙◌, sym, refl}
use Rattle.kola_core.proofs.Lists.{taken_more}
use Rattle.kola_schema.specs.Schemas.{names_of}
use Rattle.kola_database.proofs.db.labels_of.Goals as goal

pub loop-entry-preserved : goal.loop-entry-preserved
loop-entry-preserved c =
    let es = c.args.entries.now in
    c.in_ok-push.ensures.ok
    ∙ (λ j. c.loop-entry.invariant j ++ c.in_ok-copy.ensures j ∷ [])
    ∙ sym (taken_more (λ e. e.0) es (names_of es) c.loop-entry.entry-index c.entry-item.result refl c.loop-entry-test.true c.entry-item.is)

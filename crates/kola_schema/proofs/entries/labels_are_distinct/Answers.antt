use Rattle.std.proofs.Common.{sym, ◌∙◌}
use Rattle.kola_core.specs.declared.name.Name.{Name}
use Rattle.kola_schema.proofs.Schemas.{distinct_more, repeated}
use Rattle.kola_schema.proofs.entries.labels_are_distinct.Goals as goal

pub returns-then-has_label : goal.returns-then-has_label
returns-then-has_label g c = sym (repeated (λ (e : Name × g.row.T.Denot). e.0) c.args.entries.now c.loop-i.i c.index-entries-i.result c.loop-i-test.true c.loop-i.invariant (sym c.has_label.ensures ∙ c.if-has_label.true))

pub loop-i-preserved : goal.loop-i-preserved
loop-i-preserved g c = distinct_more (λ (e : Name × g.row.T.Denot). e.0) c.args.entries.now c.loop-i.i c.index-entries-i.result c.loop-i-test.true c.loop-i.invariant (sym c.has_label.ensures ∙ c.if-has_label.false)

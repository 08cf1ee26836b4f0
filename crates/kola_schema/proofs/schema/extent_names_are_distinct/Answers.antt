use Rattle.std.proofs.Common.{sym, ◌∙◌}
use Rattle.kola_schema.specs.declared.schema.ClassDef.{ClassDef}
use Rattle.kola_schema.proofs.Schemas.{distinct_more, repeated}
use Rattle.kola_schema.proofs.schema.extent_names_are_distinct.Goals as goal

pub returns-then-has_extent : goal.returns-then-has_extent
returns-then-has_extent c = sym (repeated (λ (c : ClassDef). c.extent) c.args.classes.now c.loop-i.i c.index-classes-i.result c.loop-i-test.true c.loop-i.invariant (sym c.has_extent.ensures ∙ c.if-has_extent.true))

pub loop-i-preserved : goal.loop-i-preserved
loop-i-preserved c = distinct_more (λ (c : ClassDef). c.extent) c.args.classes.now c.loop-i.i c.index-classes-i.result c.loop-i-test.true c.loop-i.invariant (sym c.has_extent.ensures ∙ c.if-has_extent.false)

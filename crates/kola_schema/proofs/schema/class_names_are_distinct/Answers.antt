use Rattle.std.proofs.Common.{sym, ◌∙◌}
use Rattle.kola_schema.specs.declared.schema.ClassDef.{ClassDef}
use Rattle.kola_schema.proofs.Schemas.{distinct_more, repeated}
use Rattle.kola_schema.proofs.schema.class_names_are_distinct.Goals as goal

pub returns-then-has_class : goal.returns-then-has_class
returns-then-has_class c = sym (repeated (λ (c : ClassDef). c.name) c.args.classes.now c.loop-i.i c.index-classes-i.result c.loop-i-test.true c.loop-i.invariant (sym c.has_class.ensures ∙ c.if-has_class.true))

pub loop-i-preserved : goal.loop-i-preserved
loop-i-preserved c = distinct_more (λ (c : ClassDef). c.name) c.args.classes.now c.loop-i.i c.index-classes-i.result c.loop-i-test.true c.loop-i.invariant (sym c.has_class.ensures ∙ c.if-has_class.false)

use Rattle.std.proofs.Common.{◌∙◌, sym}
use Rattle.kola_values.specs.Views.{type_tree}
use Rattle.kola_term.proofs.LiteralLoop.{literal_step, literals_end}
use Rattle.kola_term.proofs.constant.each_literal.Goals as goal

pub loop-v-preserved : goal.loop-v-preserved
loop-v-preserved c =
    literal_step (type_tree c.args.ty.now) c.args.members.now c.loop-v.v-index c.v-item.result _ c.loop-v-test.true c.v-item.is
    (sym c.is_literal_of.ensures ∙ c.if-not-is_literal_of.false) c.loop-v.invariant

pub returns-then-not-is_literal_of : goal.returns-then-not-is_literal_of
returns-then-not-is_literal_of c =
    sym (literal_step (type_tree c.args.ty.now) c.args.members.now c.loop-v.v-index c.v-item.result _ c.loop-v-test.true c.v-item.is
    (sym c.is_literal_of.ensures ∙ c.if-not-is_literal_of.true) c.loop-v.invariant)

pub returns : goal.returns
returns c = literals_end (type_tree c.args.ty.now) c.args.members.now c.loop-v.v-index c.loop-v-test.false c.loop-v.invariant

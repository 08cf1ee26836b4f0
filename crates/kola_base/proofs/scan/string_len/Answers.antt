use Rattle.std.proofs.Common.{◌∙◌, sym}
use Rattle.kola_base.proofs.Escapes.{string_step}
use Rattle.kola_base.proofs.scan.string_len.Goals as goal

pub loop-at-preserved : goal.loop-at-preserved
loop-at-preserved c = string_step c.args.rest.now c.loop-at.at c.loop-at.taken c.takes_next-taken.result c.class_of-class.result _ c.loop-at-test.true c.class_of-class.ensures (sym c.is_line_end.ensures ∙ c.if-is_line_end.false) (sym c.ends_string.ensures ∙ c.if-ends_string.false) c.takes_next-taken.ensures c.loop-at.invariant

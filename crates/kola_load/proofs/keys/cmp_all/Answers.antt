use Rattle.std.proofs.Common.{◌∙◌, map, sym, refl, arith}
use Rattle.kola_core.proofs.Compare.{step_equal, step_unequal, step_end}
use Rattle.kola_values.specs.Order.{cmp}
use Rattle.kola_values.specs.Views.{value_at}
use Rattle.kola_load.proofs.keys.cmp_all.Goals as goal

pub returns-in_default : goal.returns-in_default
returns-in_default c =
    step_unequal value_at cmp c.args.vs.now c.args.ws.now (map value_at c.args.vs.now) (map value_at c.args.ws.now) c.loop-i.i c.index-vs-i.result c.index-ws-i.result c.cmp_values.result
    refl refl (omega arith) (omega arith) c.index-vs-i.is c.index-ws-i.is c.loop-i.invariant c.cmp_values.ensures c.in_default.not-Equal

pub loop-i-preserved : goal.loop-i-preserved
loop-i-preserved c =
    step_equal value_at cmp c.args.vs.now c.args.ws.now (map value_at c.args.vs.now) (map value_at c.args.ws.now) c.loop-i.i c.index-vs-i.result c.index-ws-i.result
    refl refl (omega arith) (omega arith) c.index-vs-i.is c.index-ws-i.is c.loop-i.invariant (sym c.in-Equal.is ∙ c.cmp_values.ensures)

pub returns : goal.returns
returns c = c.cmp.ensures ∙ step_end value_at cmp c.args.vs.now c.args.ws.now (map value_at c.args.vs.now) (map value_at c.args.ws.now) c.loop-i.i refl refl (omega arith) c.loop-i.invariant

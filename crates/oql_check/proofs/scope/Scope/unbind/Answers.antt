use Rattle.std.proofs.Common.{◌-◌, length, drop, sym, ap, ◌∙◌, arith}
use Rattle.oql_check.proofs.ScopeTables.{one_less}
use Rattle.oql_check.proofs.scope.Scope.unbind.Goals as goal

pub loop-self-preserved : goal.loop-self-preserved
loop-self-preserved c =
    c.loop-self.invariant
    ∙ one_less c.loop-self.self c.args.len (omega (arith, c.loop-self-test.true, c.len.ensures))
    ∙ ap (λ s. drop (length s - c.args.len) s) (sym c.unbind_newest.ensures)

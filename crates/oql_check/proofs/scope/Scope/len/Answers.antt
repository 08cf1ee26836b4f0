use Rattle.std.proofs.Common.{arith}
use Rattle.oql_check.proofs.ScopeTables.{as_many}
use Rattle.oql_check.proofs.scope.Scope.len.Goals as goal

pub returns : goal.returns
returns c =
    let m = as_many c.self.inside.names c.self.inside.variables.items c.args.self.now c.self.view_is in
    omega (arith, m, c.len.ensures, c.self.inside.variables.ok.0)

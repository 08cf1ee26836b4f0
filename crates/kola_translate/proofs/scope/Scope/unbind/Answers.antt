use Rattle.std.proofs.Common.{reverse, ap, ◌∙◌, arith}
use Rattle.kola_translate.proofs.ScopeLoops.{newest_off}
use Rattle.kola_translate.proofs.scope.Scope.unbind.Goals as goal

pub returns : goal.returns
returns c =
    let xs = c.self.inside.entries.items in
    ap reverse c.truncate.ensures.items ∙ newest_off xs c.args.self.now c.saturating_sub-left.result c.self.view_is (omega (arith, c.saturating_sub-left.ensures, c.len.ensures, c.self.inside.entries.ok.0))

use Rattle.std.proofs.Common.{◌≡◌, drop}
use Rattle.kola_values.specs.Databases.{look_up}
use Rattle.kola_term.specs.ContextView.{context_of}
use Rattle.kola_term.proofs.meta.declared.Given as goal

abbrev pub invariant-loop-known : goal.invariant-loop-known
invariant-loop-known l = look_up l.name (context_of l.ctx) ≡ look_up l.name (context_of (drop l.known-index l.ctx))

use Rattle.std.proofs.Common.{◌≡◌}
use Rattle.kola_term.specs.TermView.{fun_tree}
use Rattle.kola_translate.specs.Translation.{variable}
use Rattle.kola_translate.proofs.made.variable_term.Given as goal

abbrev pub invariant-loop-k : goal.invariant-loop-k
invariant-loop-k l = fun_tree l.fun.value ≡ variable l._k

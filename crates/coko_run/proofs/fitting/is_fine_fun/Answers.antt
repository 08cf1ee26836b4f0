use Rattle.std.proofs.Common.{refl, subst}
use Rattle.kola_values.specs.Types.{TUnit}
use Rattle.kola_values.specs.Views.{type_tree}
use Rattle.kola_term.specs.Terms.{TermF}
use Rattle.kola_term.specs.Faults.{Fine}
use Rattle.kola_term.specs.TermView.{fun_tree}
use Rattle.kola_term.specs.ContextView.{context_of}
use Rattle.coko_run.proofs.fitting.is_fine_fun.Goals as goal

pub returns-in-Ok : goal.returns-in-Ok
returns-in-Ok c = (λ _. (type_tree c.in-Ok.field-0, subst (λ z. Fine c.args.schema.now (context_of z) (TermF (fun_tree c.args.f.now)) TUnit (type_tree c.in-Ok.field-0)) c.new-none.ensures c.in-Ok.ensures.0), λ _. refl)

use Rattle.kola_term.specs.TermView.{fun_tree}
use Rattle.kola_values.specs.Views.{type_tree}
use Rattle.kola_translate.proofs.Fitting.{fine_without}
use Rattle.kola_translate.proofs.translating.judge.Goals as goal

pub returns-in-Ok : goal.returns-in-Ok
returns-in-Ok c = fine_without c.args.schema.now _ (fun_tree c.args.f.now) (type_tree c.in-Ok.field-0) c.new-no_variables.ensures c.in-Ok.ensures.0

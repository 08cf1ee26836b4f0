use Rattle.kola_values.specs.Views.{type_tree}
use Rattle.kola_term.specs.ContextView.{context_of}
use Rattle.kola_term.specs.TermView.{fun_tree}
use Rattle.kola_term.proofs.TypeAnswers.{type_judged}
use Rattle.kola_term.proofs.typing.out_type.Goals as goal

pub returns : goal.returns
returns c = type_judged c.args.schema.now (context_of c.args.ctx.now) (fun_tree c.args.f.now) (type_tree c.args.t.now) c.fun.result c.fun.ensures

use Rattle.kola_values.specs.Views.{type_tree}
use Rattle.kola_term.specs.ContextView.{context_of}
use Rattle.kola_term.specs.TermView.{pred_tree}
use Rattle.kola_term.proofs.TypeAnswers.{check_judged}
use Rattle.kola_term.proofs.typing.pred_ok.Goals as goal

pub returns : goal.returns
returns c = check_judged c.args.schema.now (context_of c.args.ctx.now) (pred_tree c.args.p.now) (type_tree c.args.t.now) c.pred.result c.pred.ensures

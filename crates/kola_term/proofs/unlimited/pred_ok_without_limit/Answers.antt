use Rattle.std.proofs.Common.{◌∙◌, false, sym, ap, subst}
use Rattle.kola_values.specs.Views.{type_tree}
use Rattle.kola_term.specs.ContextView.{context_of}
use Rattle.kola_term.specs.TermView.{pred_tree}
use Rattle.kola_term.specs.Judging.{checking}
use Rattle.kola_term.specs.TypingAnswers.{IsFault}
use Rattle.kola_term.proofs.WithoutLimit.{has_type, has_checking}
use Rattle.kola_term.proofs.unlimited.pred_ok_without_limit.Goals as goal

pub returns-in-Ok : goal.returns-in-Ok
returns-in-Ok c = ap has_type (sym c.in-Ok.ensures) ∙ has_checking c.args.schema.now (context_of c.args.ctx.now) (pred_tree c.args.p.now) (type_tree c.args.t.now)

pub returns-in-Err-At : goal.returns-in-Err-At
returns-in-Err-At c = ap has_type (sym (subst (λ e. IsFault e (checking c.args.schema.now (context_of c.args.ctx.now) false (pred_tree c.args.p.now) (type_tree c.args.t.now))) c.in-Err-At.field-0-is c.in-Err-At.ensures)) ∙ has_checking c.args.schema.now (context_of c.args.ctx.now) (pred_tree c.args.p.now) (type_tree c.args.t.now)

use Rattle.std.proofs.Common.{◌∙◌, false, sym, ap, subst}
use Rattle.kola_values.specs.Views.{type_tree}
use Rattle.kola_term.specs.ContextView.{context_of}
use Rattle.kola_term.specs.TermView.{fun_tree}
use Rattle.kola_term.specs.Judging.{typing}
use Rattle.kola_term.specs.TypingAnswers.{IsFault}
use Rattle.kola_term.proofs.WithoutLimit.{type_in, in_typing}
use Rattle.kola_term.proofs.unlimited.out_type_without_limit.Goals as goal

pub returns-in-Ok : goal.returns-in-Ok
returns-in-Ok c = ap type_in (sym c.in-Ok.ensures) ∙ in_typing c.args.schema.now (context_of c.args.ctx.now) (fun_tree c.args.f.now) (type_tree c.args.t.now)

pub returns-in-Err-At : goal.returns-in-Err-At
returns-in-Err-At c = ap type_in (sym (subst (λ e. IsFault e (typing c.args.schema.now (context_of c.args.ctx.now) false (fun_tree c.args.f.now) (type_tree c.args.t.now))) c.in-Err-At.field-0-is c.in-Err-At.ensures)) ∙ in_typing c.args.schema.now (context_of c.args.ctx.now) (fun_tree c.args.f.now) (type_tree c.args.t.now)

use Rattle.std.proofs.Common.{sym, ◌∙◌}
use Rattle.kola_values.specs.Views.{type_tree}
use Rattle.kola_term.specs.ContextView.{context_of}
use Rattle.kola_term.specs.TermView.{fun_tree}
use Rattle.kola_injective.proofs.Exact.{infer_sound, infer_complete}
use Rattle.kola_injective.proofs.Sound.{injective_where}
use Rattle.kola_injective.proofs.infer.infer_inj.Goals as goal

pub returns-clause-exact : goal.returns-clause-exact
returns-clause-exact c = (
  λ e. infer_sound c.args.schema.now (context_of c.args.ctx.now) c.args.hyps.now (fun_tree c.args.f.now) (type_tree c.args.ty.now) (sym c.in_ok-derived.ensures ∙ e),
  λ d. c.in_ok-derived.ensures ∙ infer_complete c.args.schema.now (context_of c.args.ctx.now) c.args.hyps.now (fun_tree c.args.f.now) (type_tree c.args.ty.now) d,
)

pub returns-clause-sound : goal.returns-clause-sound
returns-clause-sound c = λ e.
    injective_where c.args.schema.now c.well_formed-2.ensures (context_of c.args.ctx.now) c.args.hyps.now (fun_tree c.args.f.now) (type_tree c.args.ty.now)
    (infer_sound c.args.schema.now (context_of c.args.ctx.now) c.args.hyps.now (fun_tree c.args.f.now) (type_tree c.args.ty.now) (sym c.in_ok-derived.ensures ∙ e))

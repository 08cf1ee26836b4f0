use Rattle.std.proofs.Common.{sym, ap, subst, ◌∙◌}
use Rattle.kola_values.specs.Views.{type_tree}
use Rattle.kola_term.specs.ContextView.{context_of}
use Rattle.kola_term.specs.Parts.{sub_tree}
use Rattle.kola_term.specs.Places.{Typed}
use Rattle.kola_term.specs.TermView.{fun_tree}
use Rattle.kola_term.specs.Typing.{out}
use Rattle.kola_calls.proofs.TypedParts.{some_type}
use Rattle.kola_calls.proofs.instances.is_typed.Goals as goal

pub returns-in_ok-output-in-F : goal.returns-in_ok-output-in-F
returns-in_ok-output-in-F c =
    let S = c.args.schema.now in
    let x = context_of c.args.ctx.now in
    let T = type_tree c.args.ty.now in
    λ k. subst (λ z. Typed S x z T) (sym (ap sub_tree c.in-F.is)) (some_type c.in_ok-output-in-F.output (out S x (fun_tree c.in-F.f.now) T) c.in_ok-output-in-F.ensures (sym c.is_some.ensures ∙ k))

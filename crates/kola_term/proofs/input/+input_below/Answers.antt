use Rattle.std.proofs.Common.{sym, ◌∙◌, ap, subst, option_map, arith}
use Rattle.kola_values.specs.Views.{type_tree}
use Rattle.kola_term.specs.ContextView.{context_of}
use Rattle.kola_term.specs.Parts.{sub_tree}
use Rattle.kola_term.specs.Inputs.{IsInput}
use Rattle.kola_term.proofs.InputPlaces.{child_typed, child_has_input, input_end, input_step}
use Rattle.kola_term.proofs.input.+input_below.Goals as goal

pub returns-in_default : goal.returns-in_default
returns-in_default t c =
    input_end c.args.schema.now (context_of c.args.ctx.now) (sub_tree c.args.part) (type_tree c.args.ty) c.args.path.now c.at_node.result c.in_default.ensures.cases c.at_node.ensures

pub returns-in_default-2 : goal.returns-in_default-2
returns-in_default-2 t c =
    absurd (child_has_input c.args.schema.now (context_of c.args.ctx.now) (sub_tree c.args.part) c.in-Some.n.now (type_tree c.args.ty) (sub_tree c.in-Some-child.child)
    c.requires (sym c.in-Some-child.ensures) (sym c.in_ok-input.ensures ∙ ap (option_map type_tree) c.in_default-2.is))

pub input_below-requires : goal.input_below-requires
input_below-requires t c = (
  omega (arith, c.in-Some.ensures.cases.1),
  child_typed c.args.schema.now (context_of c.args.ctx.now) (sub_tree c.args.part) c.in-Some.n.now (type_tree c.args.ty) (sub_tree c.in-Some-child.child) (type_tree c.in-Some-2.input)
      c.requires (sym c.in-Some-child.ensures) (sym c.in_ok-input.ensures ∙ ap (option_map type_tree) c.in-Some-2.is),
)

pub returns : goal.returns
returns t c =
    subst (λ q. IsInput c.args.schema.now (context_of c.args.ctx.now) (sub_tree c.args.part) (type_tree c.args.ty) q c.input_below.result) (sym c.in-Some.ensures.cases.0)
    (input_step c.args.schema.now (context_of c.args.ctx.now) (sub_tree c.args.part) c.in-Some.n.now (type_tree c.args.ty) (sub_tree c.in-Some-child.child) (type_tree c.in-Some-2.input)
    c.in-Some.rest.now c.input_below.result (sym c.in-Some-child.ensures) (sym c.in_ok-input.ensures ∙ ap (option_map type_tree) c.in-Some-2.is) c.input_below.ensures)

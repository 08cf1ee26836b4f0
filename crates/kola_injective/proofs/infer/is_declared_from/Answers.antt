use Rattle.std.proofs.Common.{Some, None, ap, ◌∙◌}
use Rattle.kola_values.specs.Views.{type_tree}
use Rattle.kola_term.specs.Typing.{fun_of, is_some_type}
use Rattle.kola_match.proofs.RuleLaws.{declared_as}
use Rattle.kola_injective.proofs.infer.is_declared_from.Goals as goal

pub returns-in-Some : goal.returns-in-Some
returns-in-Some c =
    c.is_from.ensures
    ∙ ap (λ z. is_some_type (fun_of z (type_tree c.args.t.now))) (declared_as c.as_slice.result.now c.args.ctx.now c.args.name.now c.entry_named.result (Some c.in-Some.entry) c.entry_named.ensures c.as_slice.ensures c.in-Some.is)

pub returns-in-None : goal.returns-in-None
returns-in-None c = ap (λ z. is_some_type (fun_of z (type_tree c.args.t.now))) (declared_as c.as_slice.result.now c.args.ctx.now c.args.name.now c.entry_named.result None c.entry_named.ensures c.as_slice.ensures c.in-None.is)

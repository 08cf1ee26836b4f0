use Rattle.std.proofs.Common.{refl, sym, ap, ◌∙◌, option_map}
use Rattle.kola_values.specs.Views.{type_tree}
use Rattle.kola_term.specs.Typing.{const_type}
use Rattle.kola_term.specs.TermView.{const_tree}
use Rattle.kola_term.specs.ContextView.{context_of}
use Rattle.coko_run.proofs.fitting.is_fine_const.Goals as goal

pub returns-in-Some : goal.returns-in-Some
returns-in-Some c =
    let none = ap (λ z. const_type c.args.schema.now (context_of z) (const_tree c.args.c.now)) c.new-none.ensures in
    (λ _. (type_tree c.in-Some.field-0, sym none ∙ (sym c.in_ok-const_type.ensures ∙ ap (option_map type_tree) c.in-Some.is)), λ _. refl)

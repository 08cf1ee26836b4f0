use Rattle.std.proofs.Common.{[], refl, sym, ap, ◌∙◌, subst, option_map}
use Rattle.kola_values.specs.Views.{type_tree}
use Rattle.kola_term.specs.Terms.{FId}
use Rattle.kola_match.specs.Binds.{or_else, substitution_of}
use Rattle.kola_match.specs.Substitutions.{sub_type}
use Rattle.kola_match.specs.NodeViews.{fun_at}
use Rattle.kola_match.specs.SubstViews.{found_binds}
use Rattle.kola_injective.specs.Derived.{Derived, of_id}
use Rattle.coko_run.proofs.conditions.is_shown.Goals as goal

pub returns-in_default : goal.returns-in_default
returns-in_default c =
    let e = ap (option_map fun_at) (sym c.in_default.is) ∙ c.fun_of.ensures in
    (λ _. subst (λ o. Derived c.args.schema.now [] [] (or_else FId o) (sub_type (substitution_of (found_binds c.args.s.now)).types (type_tree c.args.input.now))) e of_id, λ _. refl)

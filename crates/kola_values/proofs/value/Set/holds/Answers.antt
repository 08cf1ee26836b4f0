use Rattle.std.proofs.Common.{◌∙◌, sym, ap, rules, subst}
use Rattle.std.proofs.lemmas.Fn.{always_returns_same}
use Rattle.kola_values.specs.Order.{cmp}
use Rattle.kola_values.specs.Sets.{Rising, has}
use Rattle.kola_values.specs.Views.{value_tree}
use Rattle.kola_values.proofs.Making.{found}
use Rattle.kola_values.proofs.value.Set.holds.Goals as goal

pub returns : goal.returns
returns c =
    let at = c.binary_search_by.ensures.position (λ x. cmp (value_tree x) (value_tree c.args.v.now)) (always_returns_same _ _ _ (λ a r f' k. search rules)) in
    c.is_ok.ensures.value
    ∙ found value_tree (value_tree c.args.v.now) c.as_slice.result.now c.binary_search_by.result (subst Rising (sym c.as_slice.ensures) c.well_formed-2.ensures.rises) c.binary_search_by.ensures.bound at
    ∙ ap (has (value_tree c.args.v.now)) c.as_slice.ensures

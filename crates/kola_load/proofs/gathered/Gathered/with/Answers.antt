use Rattle.std.proofs.Common.{[], ◌∷◌, ◌++◌, map, sym, ap, ◌∙◌}
use Rattle.std.proofs.lemmas.List.{map-append}
use Rattle.kola_values.specs.Sets.{canon}
use Rattle.kola_values.specs.Views.{value_tree}
use Rattle.kola_load.proofs.ValueLoops.{gathered_more}
use Rattle.kola_load.proofs.gathered.Gathered.with.Goals as goal

pub returns : goal.returns
returns c =
    let values = c.in_ok-values.values.items in
    let v = value_tree c.args.value in
    ap (λ l. canon (map value_tree l)) c.in_ok-push.ensures.items
    ∙ ap canon (map-append value_tree values (c.args.value ∷ []))
    ∙ sym (gathered_more (map value_tree values) v)
    ∙ ap (λ l. canon (l ++ v ∷ [])) (c.in_ok-values.ensures ∙ c.self.view_is)

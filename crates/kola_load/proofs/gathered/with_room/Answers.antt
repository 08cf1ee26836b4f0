use Rattle.std.proofs.Common.{map, ap, ◌∙◌}
use Rattle.kola_values.specs.Sets.{canon}
use Rattle.kola_values.specs.Views.{value_tree}
use Rattle.kola_load.proofs.ValueLoops.{gathered_again}
use Rattle.kola_load.proofs.gathered.with_room.Goals as goal

pub returns : goal.returns
returns c =
    ap (λ l. canon (map value_tree l)) c.in_ok-reserve.ensures.items
    ∙ ap canon (c.in_ok-values.ensures ∙ c.in_ok-from_members.ensures)
    ∙ gathered_again (map value_tree c.args.values.items)

use Rattle.std.proofs.Common.{◌≡◌, map, take}
use Rattle.kola_values.specs.Views.{value_tree}
use Rattle.oql_tree.specs.QueryViews.{literal_entry}
use Rattle.kola_translate.specs.Translation.{literal_values}
use Rattle.kola_translate.proofs.leaf.values_of.Given as goal

abbrev pub invariant-loop-l : goal.invariant-loop-l
invariant-loop-l l = map value_tree l.values.items ≡ literal_values (map literal_entry (take l.l-index l.literals))

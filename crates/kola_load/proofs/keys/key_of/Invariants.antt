use Rattle.std.proofs.Common.{◌≡◌, map, take}
use Rattle.kola_values.specs.Views.{value_at}
use Rattle.kola_load.specs.KeyViews.{value_at_place}
use Rattle.kola_load.proofs.keys.key_of.Given as goal

abbrev pub invariant-loop-place : goal.invariant-loop-place
invariant-loop-place l = map value_at l.values.items ≡ map (value_at_place l.object.values) (take l.place-index l.places)

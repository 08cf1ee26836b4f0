use Rattle.std.proofs.Common.{◌≡◌, map, take, position}
use Rattle.std.specs.Str.{bytes_eq}
use Rattle.kola_schema.specs.Schemas.{names_of}
use Rattle.kola_load.proofs.keys.places_of.Given as goal

abbrev pub invariant-loop-a : goal.invariant-loop-a
invariant-loop-a l = l.places.items ≡ map (λ a. position (bytes_eq a) (names_of l.class.attributes)) (take l.a-index l.key)

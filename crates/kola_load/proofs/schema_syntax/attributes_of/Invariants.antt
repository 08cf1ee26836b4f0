use Rattle.std.proofs.Common.{◌≡◌, length, map}
use Rattle.kola_parse.specs.Listed.{listed}
use Rattle.kola_load.specs.SchemaReaders.{type_at, next_attribute, attributes_at}
use Rattle.kola_load.specs.SchemaViews.{attribute_view}
use Rattle.kola_load.proofs.schema_syntax.attributes_of.Given as goal

abbrev pub invariant-loop-attributes : goal.invariant-loop-attributes
invariant-loop-attributes l = listed (next_attribute (type_at l.fn.levels)) (map attribute_view l.attributes.items) l.rest ≡ attributes_at (type_at l.fn.levels) l.fn.tokens

abbrev pub decreases-loop-attributes : goal.decreases-loop-attributes
decreases-loop-attributes l = length l.rest

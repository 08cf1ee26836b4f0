use Rattle.std.proofs.Common.{◌≡◌, length, map}
use Rattle.kola_parse.specs.Listed.{listed}
use Rattle.kola_load.specs.SchemaReaders.{next_name, names_at}
use Rattle.kola_load.specs.SchemaViews.{named_view}
use Rattle.kola_load.proofs.schema_syntax.names_of.Given as goal

abbrev pub invariant-loop-names : goal.invariant-loop-names
invariant-loop-names l = listed next_name (map named_view l.names.items) l.rest ≡ names_at l.fn.tokens

abbrev pub decreases-loop-names : goal.decreases-loop-names
decreases-loop-names l = length l.rest

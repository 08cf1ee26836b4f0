use Rattle.std.proofs.Common.{◌≡◌, length, map}
use Rattle.kola_parse.specs.Listed.{listed}
use Rattle.kola_load.specs.SchemaReaders.{next_key, keys_at}
use Rattle.kola_load.specs.SchemaViews.{key_view}
use Rattle.kola_load.proofs.schema_syntax.keys_of.Given as goal

abbrev pub invariant-loop-keys : goal.invariant-loop-keys
invariant-loop-keys l = listed next_key (map key_view l.keys.items) l.rest ≡ keys_at l.fn.tokens

abbrev pub decreases-loop-keys : goal.decreases-loop-keys
decreases-loop-keys l = length l.rest

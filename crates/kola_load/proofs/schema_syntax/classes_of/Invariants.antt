use Rattle.std.proofs.Common.{◌≡◌, length, map}
use Rattle.kola_parse.specs.Reader.{many}
use Rattle.kola_load.specs.SchemaAlphabet.{kind}
use Rattle.kola_load.specs.SchemaReaders.{type_at, class_move, grow, schema_at}
use Rattle.kola_load.specs.SchemaViews.{class_view}
use Rattle.kola_load.proofs.schema_syntax.classes_of.Given as goal

abbrev pub invariant-loop-classes : goal.invariant-loop-classes
invariant-loop-classes l = many (λ cs t. class_move (type_at l.fn.levels) (kind t)) grow (map class_view l.classes.items) l.rest ≡ schema_at l.fn.levels l.fn.tokens

abbrev pub decreases-loop-classes : goal.decreases-loop-classes
decreases-loop-classes l = length l.rest

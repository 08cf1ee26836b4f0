use Rattle.kola_values.specs.Views.{value_tree, type_tree}
use Rattle.kola_canon.proofs.EncodingInverse.{well_formed_enc}
use Rattle.kola_canon.proofs.encoding.encode.Goals as goal

pub encoded-requires : goal.encoded-requires
encoded-requires c = well_formed_enc (type_tree c.args.t.now) (value_tree c.args.v.now) c.requires c.well_formed-2.ensures

use Rattle.kola_canon.proofs.EncodingOrder.{enc-set_of}
use Rattle.kola_canon.proofs.encoding.encoding_goes_through_sets.Goals as goal

pub returns : goal.returns
returns c = enc-set_of

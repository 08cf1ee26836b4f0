use Rattle.kola_canon.proofs.EncodingOrder.{enc_cmp, enc_exact}
use Rattle.kola_canon.proofs.encoding.encoding_keeps_order.Goals as goal

pub returns : goal.returns
returns c = record {
  order = enc_cmp;
  exact = enc_exact;
}

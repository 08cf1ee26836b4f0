use Rattle.kola_canon.proofs.EncodingInverse.{typed_shaped, enc_shaped, dec_enc, dec_right}
use Rattle.kola_canon.proofs.encoding.encoding_has_an_inverse.Goals as goal

pub returns : goal.returns
returns c = record {
  typed = typed_shaped;
  encoded = enc_shaped;
  back = dec_enc;
  onto = dec_right;
}

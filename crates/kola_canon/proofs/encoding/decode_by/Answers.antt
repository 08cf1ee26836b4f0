use Rattle.std.proofs.Common.{◌≡◌, sym, subst}
use Rattle.std.proofs.lemmas.Result.{IfOk-weaker}
use Rattle.kola_values.specs.Shapes.{Shaped}
use Rattle.kola_canon.specs.Encoding.{enc, dec}
use Rattle.kola_values.specs.Views.{value_tree, type_tree}
use Rattle.kola_canon.proofs.EncodingInverse.{dec_right, well_formed_dec}
use Rattle.kola_canon.proofs.encoding.decode_by.Goals as goal

pub decoded-requires : goal.decoded-requires
decoded-requires c = well_formed_dec (type_tree c.args.t.now) (value_tree c.args.v.now) c.requires c.well_formed-2.ensures

pub returns : goal.returns
returns c =
    let t = type_tree c.args.t.now in
    let v = value_tree c.args.v.now in
    IfOk-weaker c.decoded.result (λ w. value_tree w ≡ dec t v) (λ w. (enc (value_tree w) ≡ v) × Shaped (value_tree w) t)
    (λ w e. subst (λ z. (enc z ≡ v) × Shaped z t) (sym e) (dec_right t v c.requires)) c.decoded.ensures

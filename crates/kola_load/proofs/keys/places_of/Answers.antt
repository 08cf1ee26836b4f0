use Rattle.std.proofs.Common.{◌++◌, ◌∷◌, [], ℕ, List, map, take, position, sym, ap, ◌∙◌}
use Rattle.std.proofs.lemmas.List.{take_more, map-append}
use Rattle.std.specs.Str.{bytes_eq}
use Rattle.kola_schema.specs.Schemas.{names_of}
use Rattle.kola_load.proofs.keys.places_of.Goals as goal

pub loop-a-preserved : goal.loop-a-preserved
loop-a-preserved c =
    let us = c.args.class.now.attributes in
    let key = c.args.key.now in
    let i = c.loop-a.a-index in
    let a = c.a-item.result in
    let f = λ (n : List ℕ). position (bytes_eq n) (names_of us) in
    let more = take_more key i a c.loop-a-test.true ∙ ap (λ n. take i key ++ n ∷ []) (sym c.a-item.is) in
    c.in_ok-push.ensures.items ∙ (λ j. c.loop-a.invariant j ++ (c.attribute_place-place.ensures ∙ ap f c.as_text.ensures.text) j ∷ [])
    ∙ sym (ap (map f) more ∙ map-append f (take i key) (a ∷ []))

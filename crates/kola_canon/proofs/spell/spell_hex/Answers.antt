use Rattle.std.proofs.Common.{◌∷◌, [], ◌++◌, false, sym, ap, ◌∙◌, arith}
use Rattle.std.proofs.lemmas.Fmt.{hex_one_digit, hex_two_digits}
use Rattle.std.proofs.lemmas.List.{append_assoc}
use Rattle.kola_canon.proofs.spell.spell_hex.Goals as goal

pub returns-then-byte-lt16 : goal.returns-then-byte-lt16
returns-then-byte-lt16 c =
    c.in_ok-push.ensures.items
    ∙ ap (λ d. c.args.out.now.items ++ d ∷ []) c.hex_digit.ensures
    ∙ ap (λ l. c.args.out.now.items ++ l) (sym (hex_one_digit false c.args.byte c.if-byte-lt16.true))

pub returns : goal.returns
returns c =
    c.in_ok-push-3.ensures.items
    ∙ ap (λ l. l ++ c.hex_digit-3.result ∷ []) c.in_ok-push-2.ensures.items
    ∙ append_assoc c.args.out.now.items (c.hex_digit-2.result ∷ []) (c.hex_digit-3.result ∷ [])
    ∙ (λ i. c.args.out.now.items ++ (c.hex_digit-2.ensures i ∷ c.hex_digit-3.ensures i ∷ []))
    ∙ ap (λ l. c.args.out.now.items ++ l) (sym (hex_two_digits false c.args.byte c.if-byte-lt16.false (omega arith)))

use Rattle.std.proofs.Common.{◌≡◌, ◌+◌, ◌%◌, ◌∷◌, [], ◌++◌, OnOk, subst, sym, ap, ◌∙◌, arith}
use Rattle.std.proofs.lemmas.Fmt.{decimal_digit}
use Rattle.kola_canon.proofs.Digits.{last_digit}
use Rattle.kola_canon.proofs.spell.+spell_number.Goals as goal

pub returns-then-n-lt10 : goal.returns-then-n-lt10
returns-then-n-lt10 t c =
    subst (λ l. OnOk c.spell_digit.result (c.spell_digit.new.out.items ≡ c.args.out.now.items ++ l)) (sym (decimal_digit c.args.n c.if-n-lt10.true)) c.spell_digit.ensures

pub returns : goal.returns
returns t c =
    subst (λ l. OnOk c.spell_digit-2.result (c.spell_digit-2.new.out.items ≡ l))
    (ap (λ l. l ++ (48 + c.args.n % 10) ∷ []) c.in_ok-spell_number.ensures ∙ last_digit c.args.out.now.items c.args.n (omega (arith, c.if-n-lt10.false)) c.ranges.n.fits)
    c.spell_digit-2.ensures

use Rattle.std.proofs.Common.{arith}
use Rattle.kola_base.proofs.Escapes.{digit_step, digits_fit}
use Rattle.kola_base.proofs.strings.hexadecimal.Goals as goal

pub overflow_mul-number : goal.overflow_mul-number
overflow_mul-number c = let h = digits_fit c.loop-digit.digit-index c.loop-digit.number 0 (omega (arith, c.loop-digit-test.true, c.requires.few)) c.loop-digit.invariant.1 (omega arith) in omega (arith, h.1)

pub overflow_add-number : goal.overflow_add-number
overflow_add-number c = let h = digits_fit c.loop-digit.digit-index c.loop-digit.number c.digit_value.result (omega (arith, c.loop-digit-test.true, c.requires.few)) c.loop-digit.invariant.1 c.digit_value.ensures.small in omega (arith, h.1)

pub loop-digit-preserved : goal.loop-digit-preserved
loop-digit-preserved c =
    let h = digits_fit c.loop-digit.digit-index c.loop-digit.number c.digit_value.result (omega (arith, c.loop-digit-test.true, c.requires.few)) c.loop-digit.invariant.1 c.digit_value.ensures.small in
    (digit_step c.args.digits.now c.loop-digit.digit-index c.loop-digit.number c.digit_value.result c.loop-digit-test.true c.loop-digit.invariant.0 c.digit_value.ensures.is, h.0)

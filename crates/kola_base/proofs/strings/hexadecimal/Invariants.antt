use Rattle.std.proofs.Common.{◌≡◌, ◌<◌, ◌^◌, take}
use Rattle.kola_base.specs.Strings.{hexadecimal}
use Rattle.kola_base.proofs.strings.hexadecimal.Given as goal

abbrev pub invariant-loop-digit : goal.invariant-loop-digit
invariant-loop-digit l = (l.number ≡ hexadecimal 0 (take l.digit-index l.digits)) × (l.number < 16 ^ l.digit-index)

use Rattle.std.proofs.Common.{◌≡◌, ◌+◌, map, drop, false, option_map}
use Rattle.kola_base.specs.Pieces.{class}
use Rattle.kola_base.specs.Scanning.{string_len}
use Rattle.kola_base.proofs.scan.string_len.Given as goal

abbrev pub invariant-loop-at : goal.invariant-loop-at
invariant-loop-at l = string_len false (map class l.rest) ≡ option_map (λ n. l.at + n) (string_len l.taken (map class (drop l.at l.rest)))

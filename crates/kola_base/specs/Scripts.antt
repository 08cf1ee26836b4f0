-- Sources and sinks in memory, and which of their calls fail.
use Rattle.std.specs.Prelude.{ℕ, ◌+◌, ◌-◌, ◌^◌, min, List, length, Bool, if◌then◌else◌}

-- one more in 64 bits, where the greatest value stays
abbrev pub counted : ℕ → ℕ
counted n = min (n + 1) (2 ^ 64 - 1)

-- the numbers of the calls that fail, how many calls there were, and how many failed
pub record Script : Type 0 where
  pub fails : List ℕ
  pub calls : ℕ
  pub faults : ℕ

-- before the first call
abbrev pub unplayed : List ℕ → Script
unplayed fails = record { fails = fails; calls = 0; faults = 0 }

-- after a call, which failed or did not
abbrev pub played : Script → Bool → Script
played s failed = record { fails = s.fails; calls = counted s.calls; faults = if failed then counted s.faults else s.faults }

-- bytes in memory, of which a call gives at most a piece
pub record Supply : Type 0 where
  pub left : List ℕ
  pub piece : ℕ

-- how many of them a call gives that has this room: the least of the piece, the room and what is left
abbrev pub share : Supply → ℕ → ℕ
share s room = min (min s.piece room) (length s.left)

-- the same bytes where calls fail
pub record ScriptedSupply : Type 0 where
  pub supply : Supply
  pub script : Script

-- room in memory for bytes, of which a call takes at most a piece
pub record Store : Type 0 where
  pub written : List ℕ
  pub room : ℕ
  pub piece : ℕ
  pub script : Script

-- how many bytes a call takes of so many that are offered: the least of the piece, these and the room that is left
abbrev pub fitting : Store → ℕ → ℕ
fitting s offered = min (min s.piece offered) (s.room - length s.written)

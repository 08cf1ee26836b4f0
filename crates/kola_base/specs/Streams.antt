-- What a call does to the bytes that a source has left and to those that a sink took: told ones stay told, untold ones untold.
use Rattle.std.specs.Prelude.{◌≡◌, ◌↔◌, ℕ, ◌<◌, ◌≤◌, List, [], length, take, IfSome}
use Rattle.std.specs.Io.KnownBytes.{prepend_known, append_known}
use Rattle.std.specs.declared.option.Option.{Option}

-- a read that answers n took the first n bytes that were left, and put them at the front of the buffer
pub record Reads (before after : Option (List ℕ)) (buf : List ℕ) (n : ℕ) : Type 0 where
  pub fits : n ≤ length buf
  pub taken : before ≡ prepend_known (take n buf) after
  -- with room it took none exactly where none was left
  pub end : 0 < length buf → IfSome before (λ left. (n ≡ 0) ↔ (left ≡ []))

-- a write that answers n took the first n bytes of the piece, and at least one of a piece that has any
pub record Writes (before after : Option (List ℕ)) (piece : List ℕ) (n : ℕ) : Type 0 where
  pub fits : n ≤ length piece
  pub some : 0 < length piece → 0 < n
  pub added : after ≡ append_known before (take n piece)

-- a reader or a writer of std, and how many of its calls failed
pub record Watched (T : Type 0) : Type 0 where
  pub inner : T
  pub faults : ℕ

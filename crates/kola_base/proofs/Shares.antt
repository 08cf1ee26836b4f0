-- What a read in memory moves: the least of a piece, the room and what is left.
use Rattle.std.proofs.Common.{◌≡◌, ℕ, ◌+◌, ◌-◌, ◌≤◌, List, ◌++◌, length, take, drop, Some, sym, ap, ◌∙◌, arith, length-append, length-drop}
use Rattle.std.proofs.lemmas.List.{take_at, length-take-le, take-append-drop, nil_from_length}
use Rattle.kola_base.specs.Streams.{Reads}
use Rattle.kola_base.specs.Scripts.{Supply, share}

-- the bytes that a call gives stand at the front of the buffer, and the rest is left
pub copied_front : (s : Supply) (old buf after : List ℕ) (n : ℕ) → 1 ≤ s.piece → n ≡ share s (length old)
    → buf ≡ take n s.left ++ drop n old → after ≡ drop n s.left → Reads (Some s.left) (Some after) buf n
copied_front s old buf after n some is copied rest =
    let given = take n s.left in
    let size : length given ≡ n = length-take-le n s.left (omega arith) in
    let long : length buf ≡ n + (length old - n) =
    omega (arith, ap length copied, length-append given (drop n old), length-drop n old, size) in
    let front : take n buf ≡ given = ap (take n) copied ∙ take_at given (drop n old) n size in
    record {
      fits = omega arith;
      taken = ap Some (sym (take-append-drop n s.left) ∙ (λ i. sym front i ++ sym rest i));
      end = λ room. (λ none. nil_from_length s.left (omega arith), λ none. omega (arith, ap length none));
    }

-- What a call that reads a source to its end answers, and what it took.
use Rattle.std.specs.Prelude.{◌≡◌, ℕ, ◌+◌, ◌<◌, ◌≤◌, List, length, Vec, Result, Ok, Err}
use Rattle.std.specs.Io.KnownBytes.{prepend_known, IsAtEnd}
use Rattle.std.specs.declared.option.Option.{Option}
use Rattle.std.specs.declared.alloc.Global.{Global}
use Rattle.kola_base.specs.declared.reading.ReadAllFault.{ReadAllFault}
use Rattle.kola_base.specs.declared.reading.ReadAllFault.TheVariants.{Read, TooLong, Memory}

-- what the answer says of the bytes that were taken: all, or one more than the limit, or no more than it
abbrev pub IsAnswer : ℕ → List ℕ → Option (List ℕ) → Result (Vec ℕ Global) ReadAllFault → Type 0
IsAnswer limit taken after (Ok bytes) = (bytes.items ≡ taken) × (length taken ≤ limit) × IsAtEnd after
IsAnswer limit taken after (Err TooLong) = length taken ≡ limit + 1
IsAnswer limit taken after (Err Read) = length taken ≤ limit
IsAnswer limit taken after (Err Memory) = length taken ≤ limit

-- the bytes that were taken from the front of what was left, where that is told
pub record Taking (limit : ℕ) (before after : Option (List ℕ)) (result : Result (Vec ℕ Global) ReadAllFault) : Type 0
  where
    pub taken : List ℕ
    pub front : before ≡ prepend_known taken after
    pub answer : IsAnswer limit taken after result

-- what the answer says of all the bytes that were left
abbrev pub AnswersTo : ℕ → List ℕ → Result (Vec ℕ Global) ReadAllFault → Type 0
AnswersTo limit left (Ok bytes) = (bytes.items ≡ left) × (length left ≤ limit)
AnswersTo limit left (Err TooLong) = limit < length left
AnswersTo limit left (Err Read) = Unit {0}
AnswersTo limit left (Err Memory) = Unit {0}

-- What the top call answers, by the words, the job that the source had left, and what the sink was given.
use Rattle.std.specs.Prelude.{◌≡◌, ◌⊎◌, ℕ, ◌<◌, Bool, true, false, List, length, take, None}
use Rattle.std.specs.Io.KnownBytes.{append_known}
use Rattle.std.specs.declared.option.Option.{Option}
use Rattle.kola_base.specs.Causes.{Rose}
use Rattle.kola_top.specs.declared.status.Status.{Status}
use Rattle.kola_top.specs.declared.status.Status.TheVariants as statuses
use Rattle.kola_top.specs.Words.{action_of}
use Rattle.kola_top.specs.Answer.{Answer}

-- the usage line is answered exactly where the words are no command, unless it could not be written, and then the source is as it was
pub record AnswersUsage {S : Type 0} (words : List (List ℕ)) (before after : S) (status : Status) : Type 0 where
  pub comes : action_of words ≡ None → (status ≡ statuses.Usage) ⊎ (status ≡ statuses.WriteFault)
  pub only : status ≡ statuses.Usage → action_of words ≡ None
  pub unread : action_of words ≡ None → after ≡ before

-- the sink was given the whole answer to the job, which has this status
abbrev pub Wrote : List (List ℕ) → List ℕ → Option (List ℕ) → Option (List ℕ) → Status → Type 0
Wrote words job before after status = (bytes : List ℕ) × Answer words job status bytes × (after ≡ append_known before bytes)

-- the sink was given a proper front of the answer to the job
abbrev pub WroteFront : List (List ℕ) → List ℕ → Option (List ℕ) → Option (List ℕ) → Type 0
WroteFront words job before after =
    (status : Status) × (bytes : List ℕ) × (n : ℕ) × Answer words job status bytes × (n < length bytes) × (after ≡ append_known before (take n bytes))

-- what a status says of a job: the job's answer was written, or nothing, or a proper front of the answer
abbrev pub Tells : List (List ℕ) → List ℕ → Option (List ℕ) → Option (List ℕ) → Status → Type 0
Tells words job before after statuses.ReadFault = after ≡ before
Tells words job before after statuses.Memory = after ≡ before
Tells words job before after statuses.WriteFault = WroteFront words job before after
Tells words job before after status = Wrote words job before after status

-- a job's answer is given, or memory was wanted, or a count rose in the call
abbrev pub Completes : Status → ℕ → ℕ → ℕ → ℕ → Status → Type 0
Completes due read_before read_now written_before written_now status =
    (status ≡ due) ⊎ (status ≡ statuses.Memory)
    ⊎ ((status ≡ statuses.ReadFault) × Rose read_before read_now)
    ⊎ ((status ≡ statuses.WriteFault) × Rose written_before written_now)

-- an answer of this status is written
abbrev pub is_written : Status → Bool
is_written statuses.ReadFault = false
is_written statuses.WriteFault = false
is_written statuses.Memory = false
is_written status = true

-- an answer was sent: its bytes were written whole, or a proper front of them and the count of failures rose
pub data Sent (due : Status) (bytes : List ℕ) (before after : Option (List ℕ)) (faults_before faults_now : ℕ) : Status → Type 0 where
  whole : after ≡ append_known before bytes → Sent due bytes before after faults_before faults_now due
  front : (n : ℕ) → n < length bytes → after ≡ append_known before (take n bytes) → Rose faults_before faults_now → Sent due bytes before after faults_before faults_now statuses.WriteFault

-- What a run leaves at its three sinks, by its outcome.
use Rattle.std.specs.Prelude.{◌≡◌, ◌⊎◌, ℕ, ◌+◌, List, IfSome, take, string_bytes}
use Rattle.cli_outcome.specs.declared.outcome.CommandOutcome.{CommandOutcome}
use Rattle.cli_outcome.specs.declared.outcome.CommandOutcome.TheVariants.{Answered, Noted, Refused, Memory, Words, Failed}
use Rattle.cli_outcome.specs.Ends.{Change, IsSound, IsSilent, Says, BreaksOff, Tries}
use Rattle.cli_outcome.specs.Lines.{memory_line, io_line}
use Rattle.cli_outcome.specs.Outcomes.{IsUnread}
use Rattle.cli_outcome.specs.Statuses.{answer_status, refused_status, memory_status, words_status, failed_status}

-- an answer is written to the output: all of it, or a beginning until a call fails. Its note is
-- then written to the hints. All else is written to the faults, and then its hint to the hints;
-- nothing is written to the output. And this is the exit status
abbrev pub Leaves : CommandOutcome → Change → Change → Change → ℕ → Type 0
Leaves (Answered answer bytes) output faults hints status =
    (Says output (string_bytes bytes) × IsSilent faults × IsSilent hints × (status ≡ answer_status answer))
    ⊎ (BreaksOff output (string_bytes bytes) × Tries faults io_line × IsSilent hints × (status ≡ failed_status))
Leaves (Noted answer bytes note) output faults hints status =
    (Says output (string_bytes bytes) × IsSilent faults × Tries hints (string_bytes note) × (status ≡ answer_status answer))
    ⊎ (BreaksOff output (string_bytes bytes) × Tries faults io_line × IsSilent hints × (status ≡ failed_status))
Leaves (Refused bytes hint) output faults hints status =
    IsSilent output × Tries faults (string_bytes bytes) × Tries hints (string_bytes hint) × (status ≡ refused_status)
Leaves Memory output faults hints status = IsSilent output × Tries faults memory_line × IsSilent hints × (status ≡ memory_status)
Leaves (Words bytes) output faults hints status =
    IsSilent output × Tries faults (string_bytes bytes) × IsSilent hints × (status ≡ words_status)
Leaves Failed output faults hints status = IsSilent output × Tries faults io_line × IsSilent hints × (status ≡ failed_status)

-- a run has one of these outcomes, and writes to its sinks what belongs to it
pub record IsRun (IsOutcome : CommandOutcome → Type 0) (output faults hints : Change) (status : ℕ) : Type 0 where
  pub outcome : CommandOutcome
  pub comes : IsOutcome outcome
  pub leaves : Leaves outcome output faults hints status

-- what was read of a source until it ended or the text was too long: its first bytes, at most one
-- more than a limit, if they are known
pub record WasRead (limit : ℕ) (source : Change) (text : List ℕ) : Type 0 where
  pub first : IfSome source.old.bytes (λ whole. text ≡ take (limit + 1) whole)
  pub sound : IsSound source

-- a run that reads a text has an outcome that is made from the text, or no text could be read; and
-- it writes to its sinks what belongs to its outcome
pub record IsTextRun (Makes : List ℕ → CommandOutcome → Type 0) (limit : ℕ) (source output faults hints : Change) (status : ℕ) : Type 0 where
  pub outcome : CommandOutcome
  pub comes : IsUnread source outcome ⊎ ((text : List ℕ) × WasRead limit source text × Makes text outcome)
  pub leaves : Leaves outcome output faults hints status

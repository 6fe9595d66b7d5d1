-- The outcome of a run that reads a text.
use Rattle.std.specs.Prelude.{◌⊎◌, ⊤, ℕ, List, Option, IfSome, string_bytes}
use Rattle.cli_outcome.specs.declared.outcome.Answer.{Answer}
use Rattle.cli_outcome.specs.declared.outcome.CommandOutcome.{CommandOutcome}
use Rattle.cli_outcome.specs.declared.outcome.CommandOutcome.TheVariants.{Answered, Noted, Refused, Memory, Words, Failed}
use Rattle.cli_outcome.specs.Ends.{Change, IsSound, FailsOnce}

-- the outcome of a text, if the text is known: an answer to it, without a note, or its refusal with
-- a hint; or out of memory
abbrev pub IsTextOutcome : (List ℕ → Answer → List ℕ → Type 0) → (List ℕ → List ℕ → List ℕ → Type 0) → Option (List ℕ) → CommandOutcome → Type 0
IsTextOutcome IsAnswer IsRefusal found (Answered answer bytes) = IfSome found (λ text. IsAnswer text answer (string_bytes bytes))
IsTextOutcome IsAnswer IsRefusal found (Noted answer bytes note) = ⊥
IsTextOutcome IsAnswer IsRefusal found (Refused bytes hint) = IfSome found (λ text. IsRefusal text (string_bytes bytes) (string_bytes hint))
IsTextOutcome IsAnswer IsRefusal found Memory = ⊤
IsTextOutcome IsAnswer IsRefusal found (Words bytes) = ⊥
IsTextOutcome IsAnswer IsRefusal found Failed = ⊥

-- if the outcome is an answer, this holds
abbrev pub OnAnswered : CommandOutcome → Type 0 → Type 0
OnAnswered (Answered answer bytes) P = P
OnAnswered (Noted answer bytes note) P = P
OnAnswered outcome P = ⊤

-- the outcome without a text: memory ran out, or a read failed
abbrev pub IsUnread : Change → CommandOutcome → Type 0
IsUnread source Memory = IsSound source
IsUnread source Failed = FailsOnce source
IsUnread source outcome = ⊥

-- the outcome of a run that reads its text from the source
abbrev pub IsReadOutcome : (List ℕ → Answer → List ℕ → Type 0) → (List ℕ → List ℕ → List ℕ → Type 0) → Change → CommandOutcome → Type 0
IsReadOutcome IsAnswer IsRefusal source outcome =
    IsUnread source outcome ⊎ (IsSound source × IsTextOutcome IsAnswer IsRefusal source.old.bytes outcome)

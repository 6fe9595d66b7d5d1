-- The outcome of a run whose answers may have hints.
use Rattle.std.specs.Prelude.{◌≡◌, ◌⊎◌, ⊤, ℕ, List, [], Option, IfSome, string_bytes}
use Rattle.cli_outcome.specs.declared.outcome.Answer.{Answer}
use Rattle.cli_outcome.specs.declared.outcome.CommandOutcome.{CommandOutcome}
use Rattle.cli_outcome.specs.declared.outcome.CommandOutcome.TheVariants.{Answered, Noted, Refused, Memory, Words, Failed}
use Rattle.cli_outcome.specs.Ends.{Change, IsSound}
use Rattle.cli_outcome.specs.Outcomes.{IsUnread}

-- an answer with these bytes and this hint, or without a hint if that is empty; or out of memory
abbrev pub IsHintedBy : Answer → List ℕ → List ℕ → CommandOutcome → Type 0
IsHintedBy answer bytes hint (Answered given text) = (given ≡ answer) × (string_bytes text ≡ bytes) × (hint ≡ [])
IsHintedBy answer bytes hint (Noted given text note) = (given ≡ answer) × (string_bytes text ≡ bytes) × (string_bytes note ≡ hint)
IsHintedBy answer bytes hint Memory = ⊤
IsHintedBy answer bytes hint outcome = ⊥

-- the outcome of a text, if the text is known: an answer, with a hint if it has one; or its refusal
-- with a hint; or out of memory
abbrev pub IsHintedOutcome : (List ℕ → Answer → List ℕ → List ℕ → Type 0) → (List ℕ → List ℕ → List ℕ → Type 0) → Option (List ℕ)
    → CommandOutcome → Type 0
IsHintedOutcome IsAnswer IsRefusal found (Answered answer bytes) = IfSome found (λ text. IsAnswer text answer (string_bytes bytes) [])
IsHintedOutcome IsAnswer IsRefusal found (Noted answer bytes note) =
    IfSome found (λ text. IsAnswer text answer (string_bytes bytes) (string_bytes note))
IsHintedOutcome IsAnswer IsRefusal found (Refused bytes hint) =
    IfSome found (λ text. IsRefusal text (string_bytes bytes) (string_bytes hint))
IsHintedOutcome IsAnswer IsRefusal found Memory = ⊤
IsHintedOutcome IsAnswer IsRefusal found (Words bytes) = ⊥
IsHintedOutcome IsAnswer IsRefusal found Failed = ⊥

-- the outcome of a run that reads its text from the source
abbrev pub IsHintedRead : (List ℕ → Answer → List ℕ → List ℕ → Type 0) → (List ℕ → List ℕ → List ℕ → Type 0) → Change → CommandOutcome → Type 0
IsHintedRead IsAnswer IsRefusal source outcome =
    IsUnread source outcome ⊎ (IsSound source × IsHintedOutcome IsAnswer IsRefusal source.old.bytes outcome)

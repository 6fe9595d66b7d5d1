-- The outcomes of single answers and refusals.
use Rattle.stream_text.specs.declared.line_fault.LineFault.TheVariants as lines
use Rattle.follow_monitor.specs.declared.fault.FollowFault.TheVariants as turns
use Rattle.std.specs.Prelude.{◌≡◌, ◌≢◌, ℕ, List, ⊤, string_bytes}
use Rattle.stream_text.specs.declared.line_fault.LineFault.{LineFault}
use Rattle.follow_violations.specs.declared.loss.Violation.{Violation}
use Rattle.follow_monitor.specs.declared.fault.FollowFault.{FollowFault}
use Rattle.cli_outcome.specs.declared.outcome.Answer.{Answer}
use Rattle.cli_outcome.specs.declared.outcome.Answer.TheVariants.{Yes, No, Undecided}
use Rattle.cli_outcome.specs.declared.outcome.CommandOutcome.{CommandOutcome}
use Rattle.cli_outcome.specs.declared.outcome.CommandOutcome.TheVariants.{Answered, Refused, Memory}
use Rattle.cli_outcome.specs.Hints.{yes_hint}
use Rattle.cli_outcome.specs.HintedOutcomes.{IsHintedBy}
use Rattle.cli_follow.specs.Refusals.{line_fault_name, turn_fault_name, too_many_name, stream_fault_line}
use Rattle.cli_follow.specs.Refusals.{line_fault_hint, turn_fault_hint, too_many_hint, IsHintAfter}
use Rattle.cli_follow.specs.Reports.{yes_line}
use Rattle.cli_follow.specs.Answers.{IsLostText, IsSpentText}

-- the outcome of the line of this number, which has this fault
abbrev pub IsLineRefusal : ℕ → List ℕ → LineFault → CommandOutcome → Type 0
IsLineRefusal number next fault (Refused bytes hint) = (fault ≢ lines.Memory)
    × (string_bytes bytes ≡ stream_fault_line number (line_fault_name fault)) × (string_bytes hint ≡ line_fault_hint next fault)
IsLineRefusal number next fault Memory = ⊤
IsLineRefusal number next fault outcome = ⊥

-- the outcome of the line after these; if it is the first line, it may be a history
abbrev pub IsRefusalAfter : List (List ℕ) → ℕ → List ℕ → LineFault → CommandOutcome → Type 0
IsRefusalAfter read number next fault (Refused bytes hint) = (fault ≢ lines.Memory)
    × (string_bytes bytes ≡ stream_fault_line number (line_fault_name fault)) × IsHintAfter read next fault (string_bytes hint)
IsRefusalAfter read number next fault Memory = ⊤
IsRefusalAfter read number next fault outcome = ⊥

-- the outcome of the event of a line, which has this fault
abbrev pub IsTurnRefusal : ℕ → List ℕ → FollowFault → CommandOutcome → Type 0
IsTurnRefusal number next fault (Refused bytes hint) = (fault ≢ turns.Memory)
    × (string_bytes bytes ≡ stream_fault_line number (turn_fault_name fault)) × (string_bytes hint ≡ turn_fault_hint next fault)
IsTurnRefusal number next fault Memory = ⊤
IsTurnRefusal number next fault outcome = ⊥

-- the outcome if there are too many lines
abbrev pub IsManyRefusal : ℕ → CommandOutcome → Type 0
IsManyRefusal number (Refused bytes hint) = (string_bytes bytes ≡ stream_fault_line number too_many_name)
    × (string_bytes hint ≡ too_many_hint)
IsManyRefusal number Memory = ⊤
IsManyRefusal number outcome = ⊥

-- the outcome of so many calls that have an order, with so much overlap in all: a yes, with its
-- hint if it has one
abbrev pub IsYesOutcome : ℕ → ℕ → CommandOutcome → Type 0
IsYesOutcome calls overlap outcome = IsHintedBy Yes (yes_line calls overlap) (yes_hint calls overlap) outcome

-- this answer with such bytes, or out of memory
abbrev pub IsAnsweredWith : Answer → (List ℕ → Type 0) → CommandOutcome → Type 0
IsAnsweredWith answer IsText (Answered given text) = (given ≡ answer) × IsText (string_bytes text)
IsAnsweredWith answer IsText Memory = ⊤
IsAnsweredWith answer IsText outcome = ⊥

-- the outcome if the events go wrong
abbrev pub IsLostOutcome : Violation → CommandOutcome → Type 0
IsLostOutcome loss outcome = IsAnsweredWith No (IsLostText loss) outcome

-- the outcome if it is not known whether they do
abbrev pub IsSpentOutcome : Violation → CommandOutcome → Type 0
IsSpentOutcome loss outcome = IsAnsweredWith Undecided (IsSpentText loss) outcome

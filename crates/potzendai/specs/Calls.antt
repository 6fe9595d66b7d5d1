-- What a call of the library leaves: the text in the caller's room, the length of the text, and the
-- status.
use Rattle.std.specs.Prelude.{◌≡◌, ◌⊎◌, ℕ, ◌≤◌, List, [], ◌∷◌, ◌++◌, length, take, drop, min, codes, string_bytes}
use Rattle.search.specs.Limits.{budget_limit}
use Rattle.cli_outcome.specs.declared.outcome.CommandOutcome.{CommandOutcome}
use Rattle.cli_outcome.specs.declared.outcome.CommandOutcome.TheVariants.{Answered, Noted, Refused, Memory, Words, Failed}
use Rattle.cli_outcome.specs.Lines.{line, memory_line, io_line}
use Rattle.cli_outcome.specs.Statuses.{answer_status, refused_status, memory_status, words_status, failed_status}

-- a search may have this budget
abbrev pub IsBudget : ℕ → Type 0
IsBudget budget = (1 ≤ budget) × (budget ≤ budget_limit)

-- the status of an outcome, as the program ends with it
abbrev pub status_of : CommandOutcome → ℕ
status_of (Answered answer bytes) = answer_status answer
status_of (Noted answer bytes note) = answer_status answer
status_of (Refused bytes hint) = refused_status
status_of Memory = memory_status
status_of (Words bytes) = words_status
status_of Failed = failed_status

-- the line of an outcome, as the program writes it
abbrev pub line_of : CommandOutcome → List ℕ
line_of (Answered answer bytes) = string_bytes bytes
line_of (Noted answer bytes note) = string_bytes bytes
line_of (Refused bytes hint) = string_bytes bytes
line_of Memory = memory_line
line_of (Words bytes) = string_bytes bytes
line_of Failed = io_line

-- the hint on a refusal
abbrev pub hint_of : CommandOutcome → List ℕ
hint_of (Refused bytes hint) = string_bytes hint
hint_of outcome = []

-- the text of an outcome, without a note: its line, and the hint after that of a refusal
abbrev pub text_of : CommandOutcome → List ℕ
text_of outcome = line_of outcome ++ hint_of outcome

-- the text for a budget that no search may have
abbrev pub budget_line : List ℕ
budget_line = line (codes "budget: from 1 to 1000000")

-- a room after a text was written into it: as much of the text as leaves place for one byte more, a
-- zero byte, and the rest as it was
abbrev pub written : List ℕ → List ℕ → List ℕ
written text [] = []
written text (byte ∷ rest) = take (min (length text) (length rest)) text ++ 0 ∷ drop (min (length text) (length rest)) rest

-- a status and a text are those of an outcome that the call can have at the budget
pub record IsReportedOutcome (IsOutcome : CommandOutcome → Type 0) (budget status : ℕ) (text : List ℕ) : Type 0 where
  pub outcome : CommandOutcome
  pub is_budget : IsBudget budget
  pub comes : IsOutcome outcome
  pub status_is : status ≡ status_of outcome
  pub text_is : text ≡ text_of outcome

-- a status and a text say that no search may have the budget
pub record IsReportedBudget (budget status : ℕ) (text : List ℕ) : Type 0 where
  pub is_none : IsBudget budget → ⊥
  pub status_is : status ≡ words_status
  pub text_is : text ≡ budget_line

-- a call has one of these outcomes, or says that no search may have the budget; this is the length
-- of its text, and its status; the room was `before` the call, and is `after` it
pub record IsCall (IsOutcome : CommandOutcome → Type 0) (budget : ℕ) (before after : List ℕ) (size status : ℕ) : Type 0 where
  pub text : List ℕ
  pub reported : IsReportedOutcome IsOutcome budget status text ⊎ IsReportedBudget budget status text
  pub size_is : size ≡ length text
  pub room : after ≡ written text before

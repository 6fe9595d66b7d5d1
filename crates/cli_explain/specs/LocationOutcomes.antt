-- How a run that locates an event of a history comes out.
use Rattle.std.specs.Prelude.{ℕ, Bool}
use Rattle.cli_outcome.specs.declared.outcome.CommandOutcome.{CommandOutcome}
use Rattle.cli_outcome.specs.Ends.{Change}
use Rattle.cli_outcome.specs.Outcomes.{IsReadOutcome}
use Rattle.cli_judge.specs.Answers.{IsHistoryRefusal}
use Rattle.cli_explain.specs.LocationAnswers.{IsLocateAnswerWith}

-- the outcome of `locate` at this budget, with `--order` or without
abbrev pub IsLocateOutcome : ℕ → Bool → Change → CommandOutcome → Type 0
IsLocateOutcome budget order source outcome = IsReadOutcome (IsLocateAnswerWith order budget) IsHistoryRefusal source outcome

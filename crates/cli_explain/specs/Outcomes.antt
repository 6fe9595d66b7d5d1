-- The outcome of a run that explains the text of a history.
use Rattle.std.specs.Prelude.{ℕ}
use Rattle.cli_outcome.specs.declared.outcome.CommandOutcome.{CommandOutcome}
use Rattle.cli_outcome.specs.Ends.{Change}
use Rattle.cli_outcome.specs.Outcomes.{IsReadOutcome}
use Rattle.cli_judge.specs.Answers.{IsHistoryRefusal}
use Rattle.cli_explain.specs.Answers.{IsExplainAnswer}

-- the outcome of `explain` at this budget
abbrev pub IsExplainOutcome : ℕ → Change → CommandOutcome → Type 0
IsExplainOutcome budget source outcome = IsReadOutcome (IsExplainAnswer budget) IsHistoryRefusal source outcome

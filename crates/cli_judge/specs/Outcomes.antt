-- The outcome of a run on the text of a history.
use Rattle.std.specs.Prelude.{ℕ, List}
use Rattle.cli_outcome.specs.declared.outcome.CommandOutcome.{CommandOutcome}
use Rattle.cli_outcome.specs.Ends.{Change}
use Rattle.cli_outcome.specs.Outcomes.{IsReadOutcome}
use Rattle.cli_outcome.specs.HintedOutcomes.{IsHintedRead}
use Rattle.cli_judge.specs.Answers.{IsHistoryRefusal, IsCheckAnswer, IsHintedJudgeAnswer}

-- the outcome of `check` with this order
abbrev pub IsCheckOutcome : List ℕ → Change → CommandOutcome → Type 0
IsCheckOutcome order source outcome = IsReadOutcome (IsCheckAnswer order) IsHistoryRefusal source outcome

-- the outcome of `judge` at this budget, with the hint on its answer
abbrev pub IsJudgeOutcome : ℕ → Change → CommandOutcome → Type 0
IsJudgeOutcome budget source outcome = IsHintedRead (IsHintedJudgeAnswer budget) IsHistoryRefusal source outcome

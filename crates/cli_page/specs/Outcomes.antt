-- How a run that writes a page of the verdict on a history comes out.
use Rattle.std.specs.Prelude.{ℕ}
use Rattle.cli_outcome.specs.declared.outcome.CommandOutcome.{CommandOutcome}
use Rattle.cli_outcome.specs.Ends.{Change}
use Rattle.cli_outcome.specs.Outcomes.{IsReadOutcome}
use Rattle.cli_judge.specs.Answers.{IsHistoryRefusal}
use Rattle.cli_page.specs.Answers.{IsPageAnswer}

-- the outcome of `page` at this budget
abbrev pub IsPageOutcome : ℕ → Change → CommandOutcome → Type 0
IsPageOutcome budget source outcome = IsReadOutcome (IsPageAnswer budget) IsHistoryRefusal source outcome

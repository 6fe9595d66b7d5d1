-- How a run that draws the verdict on a history comes out.
use Rattle.std.specs.Prelude.{ℕ}
use Rattle.cli_outcome.specs.declared.outcome.CommandOutcome.{CommandOutcome}
use Rattle.cli_outcome.specs.Ends.{Change}
use Rattle.cli_outcome.specs.Outcomes.{IsReadOutcome}
use Rattle.cli_judge.specs.Answers.{IsHistoryRefusal}
use Rattle.draw_picture.specs.declared.picture.View.{View}
use Rattle.cli_draw.specs.Drawings.{IsViewAnswer}

-- the outcome of `draw` at this budget, if this view is asked for
abbrev pub IsDrawOutcome : ℕ → View → Change → CommandOutcome → Type 0
IsDrawOutcome budget view source outcome = IsReadOutcome (IsViewAnswer budget view) IsHistoryRefusal source outcome

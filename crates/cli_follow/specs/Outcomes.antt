-- The outcomes of a run that follows a stream.
use Rattle.std.specs.Prelude.{ℕ, List, Option}
use Rattle.cli_outcome.specs.declared.outcome.CommandOutcome.{CommandOutcome}
use Rattle.cli_outcome.specs.Ends.{Change}
use Rattle.cli_outcome.specs.HintedOutcomes.{IsHintedOutcome, IsHintedRead}
use Rattle.cli_follow.specs.Answers.{IsFollowAnswer, IsStreamRefusal}

-- the outcome of a text, if it is known
abbrev pub IsStreamOutcome : ℕ → Option (List ℕ) → CommandOutcome → Type 0
IsStreamOutcome budget known outcome = IsHintedOutcome (IsFollowAnswer budget) IsStreamRefusal known outcome

-- the outcome of `follow` at this budget
abbrev pub IsFollowOutcome : ℕ → Change → CommandOutcome → Type 0
IsFollowOutcome budget source outcome = IsHintedRead (IsFollowAnswer budget) IsStreamRefusal source outcome

-- What a call on a handle leaves in it, and what it returns.
use Rattle.std.specs.Prelude.{◌≡◌, ◌⊎◌, ℕ, List, [], length, Option, None, Some, codes}
use Rattle.cli_outcome.specs.declared.outcome.CommandOutcome.{CommandOutcome}
use Rattle.cli_outcome.specs.Lines.{line}
use Rattle.cli_outcome.specs.Statuses.{memory_status, words_status}
use Rattle.cli_follow.specs.declared.line_follower.LineFollower.{LineFollower}
use Rattle.cli_follow.specs.declared.line_follower.LineFollower.TheVariants.{Going, Ended}
use Rattle.cli_follow.specs.Taken.{HasTaken}
use Rattle.cli_follow.specs.Outcomes.{IsStreamOutcome}
use Rattle.cli_follow.specs.Reading.{AreLinesOf}
use Rattle.potzendai.specs.Calls.{IsBudget, status_of, text_of, written}

-- there is a follower, to which these lines were given at this budget
abbrev pub Follows : ℕ → List (List ℕ) → Option LineFollower → Type 0
Follows budget lines None = ⊥
Follows budget lines (Some follower) = HasTaken budget lines follower

-- the status of a stream so far: 0 while it is followed
abbrev pub standing : LineFollower → ℕ
standing (Going followed lines budget) = 0
standing (Ended outcome) = status_of outcome

-- the status of a handle, which may be closed
abbrev pub standing_of : Option LineFollower → ℕ
standing_of None = words_status
standing_of (Some follower) = standing follower

-- a follower begins, at this budget
pub record Begins (budget : ℕ) (follows : Option LineFollower) (status : ℕ) : Type 0 where
  pub is_budget : IsBudget budget
  pub no_line : Follows budget [] follows
  pub status_is : status ≡ 0

-- none begins: memory ran out, or no search may have the budget
pub record BeginsNone (budget : ℕ) (follows : Option LineFollower) (status : ℕ) : Type 0 where
  pub none : follows ≡ None
  pub reason : (status ≡ memory_status) ⊎ ((status ≡ words_status) × (IsBudget budget → ⊥))

abbrev pub IsOpening : ℕ → Option LineFollower → ℕ → Type 0
IsOpening budget follows status = Begins budget follows status ⊎ BeginsNone budget follows status

-- the text if there is no follower
abbrev pub closed_line : List ℕ
closed_line = line (codes "follower: none")

-- what is written of a follower: an outcome that `follow` can have for each text with the lines
-- that were given
pub record IsReportedSoFar (budget : ℕ) (lines : List (List ℕ)) (before after : List ℕ) (size status : ℕ) : Type 0 where
  pub outcome : CommandOutcome
  pub comes : (text : Option (List ℕ)) → AreLinesOf text lines → IsStreamOutcome budget text outcome
  pub status_is : status ≡ status_of outcome
  pub size_is : size ≡ length (text_of outcome)
  pub room : after ≡ written (text_of outcome) before

-- it is written that there is no follower
pub record IsReportedClosed (before after : List ℕ) (size status : ℕ) : Type 0 where
  pub status_is : status ≡ words_status
  pub size_is : size ≡ length closed_line
  pub room : after ≡ written closed_line before

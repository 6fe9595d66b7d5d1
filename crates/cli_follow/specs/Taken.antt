-- The state of a follower to which lines were passed.
use Rattle.std.specs.Prelude.{◌≡◌, ℕ, ◌<◌, ◌≤◌, List, length, Option, ⊤}
use Rattle.events.specs.declared.event.Event.{Event}
use Rattle.cli_follow.specs.EventLines.{MayStand}
use Rattle.cli_follow.specs.Followed.{IsFollowed}
use Rattle.cli_follow.specs.Outcomes.{IsStreamOutcome}
use Rattle.cli_follow.specs.Refusals.{most_lines}
use Rattle.cli_follow.specs.StreamTexts.{BeginsWith}
use Rattle.cli_follow.specs.declared.line_follower.LineFollower.{LineFollower}
use Rattle.cli_follow.specs.declared.line_follower.LineFollower.TheVariants.{Going, Ended}

-- these lines were passed at this budget: they are followed, or the outcome is one of any text that
-- begins with them
abbrev pub HasTaken : ℕ → List (List ℕ) → LineFollower → Type 0
HasTaken budget lines (Going followed count given) =
    (given ≡ budget) × (count ≡ length lines) × (count ≤ most_lines) × IsFollowed lines followed
HasTaken budget lines (Ended outcome) = (known : Option (List ℕ)) → BeginsWith known lines → IsStreamOutcome budget known outcome

-- the outcome is known
abbrev pub HasEnded : LineFollower → Type 0
HasEnded (Going followed count given) = ⊥
HasEnded (Ended outcome) = ⊤

-- if the stream goes on, the line of this event is not one too many, and spells it in the stream's
-- version
abbrev pub MayTake : LineFollower → Event → Type 0
MayTake (Going followed count given) e = (count < most_lines) × MayStand followed.version e
MayTake (Ended outcome) e = ⊤

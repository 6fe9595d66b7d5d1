-- What a line more makes of a follower.
use Rattle.cli_follow.proofs.Common.{◌≡◌, ℕ, ◌+◌, ◌≤◌, List, [], ◌∷◌, ◌++◌, length, Option, Some, None, sym, ap, ◌∙◌, subst, append_assoc}
use Rattle.cli_follow.proofs.Common.{length-append, CommandOutcome, Memory, Followed, Going, Ended, IsFollowed, HasTaken, IsStreamOutcome, most_lines}
use Rattle.cli_follow.proofs.Common.{BeginsWith}

-- a line more is followed
pub went_on : (budget given count : ℕ) (lines : List (List ℕ)) (line : List ℕ) (f next : Followed) → HasTaken budget lines (Going f count given)
    → count + 1 ≤ most_lines → ((read : List (List ℕ)) → length read ≡ count → IsFollowed read f → IsFollowed (read ++ line ∷ []) next)
    → HasTaken budget (lines ++ line ∷ []) (Going next (count + 1) given)
went_on budget given count lines line f next added few taken = (
  added.0,
  ap (λ (n : ℕ). n + 1) added.1 ∙ sym (length-append lines (line ∷ [])),
  few,
  taken lines (sym added.1) added.3,
)

-- or ends the stream
pub came_out : (budget given count : ℕ) (lines : List (List ℕ)) (line : List ℕ) (f : Followed) (outcome : CommandOutcome)
    → HasTaken budget lines (Going f count given)
    → ((known : Option (List ℕ)) (read : List (List ℕ)) → length read ≡ count → IsFollowed read f → BeginsWith known (read ++ line ∷ [])
    → IsStreamOutcome given known outcome)
    → HasTaken budget (lines ++ line ∷ []) (Ended outcome)
came_out budget given count lines line f outcome added stopped = λ known begins.
    subst (λ (b : ℕ). IsStreamOutcome b known outcome) added.0 (stopped known lines (sym added.1) added.3 begins)

-- a text that begins with these lines and one more begins with these
pub begins_before : (known : Option (List ℕ)) (lines : List (List ℕ)) (line : List ℕ) → BeginsWith known (lines ++ line ∷ []) → BeginsWith known lines
begins_before None lines line begins = tt
begins_before (Some text) lines line begins = (line ∷ begins.0, begins.1 ∙ append_assoc lines (line ∷ []) begins.0)

-- memory ran out for it
pub no_memory : (budget : ℕ) (lines : List (List ℕ)) → HasTaken budget lines (Ended Memory)
no_memory budget lines = λ known begins. tt

-- Some lines were taken, and those of the bytes at hand are to come. A follower that had ended is unchanged.
use Rattle.cli_follow.proofs.Common.{◌≡◌, ℕ, List, ◌++◌, length, lines_of, HasEnded, HasTaken}
use Rattle.cli_follow.proofs.line_follower.LineFollower.take_lines.Given as goal

abbrev pub invariant-loop-count : goal.invariant-loop-count
invariant-loop-count l =
    (read : List (List ℕ)) × (lines_of l.fn.bytes ≡ read ++ lines_of l.rest)
    × ((budget : ℕ) (lines : List (List ℕ)) → HasTaken budget lines l.fn.self → HasTaken budget (lines ++ read) l.follower)
    × (HasEnded l.fn.self → l.follower ≡ l.fn.self)

abbrev pub decreases-loop-count : goal.decreases-loop-count
decreases-loop-count l = length l.rest

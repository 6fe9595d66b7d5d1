use Rattle.follow_pasts.proofs.Common.{◌≡◌, ℕ, ◌≤◌, false, take, covered}
use Rattle.follow_pasts.proofs.ranges.meet.Given as goal

-- no range so far has a key of them
abbrev pub invariant-loop-range : goal.invariant-loop-range
invariant-loop-range l = (key : ℕ) → l.low ≤ key → key ≤ l.high → covered (take l.range-index l.ranges) key ≡ false

use Rattle.follow_pasts.proofs.Common.{◌≡◌, ℕ, covered}
use Rattle.follow_pasts.proofs.ranges.tidied.Given as goal

-- the keys of the ranges so far
abbrev pub invariant-loop-range : goal.invariant-loop-range
invariant-loop-range l = (key : ℕ) → covered l.tidy.items key ≡ covered l.yielded key

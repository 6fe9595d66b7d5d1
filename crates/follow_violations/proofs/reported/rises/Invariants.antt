use Rattle.follow_violations.proofs.Common.{IsRising, take}
use Rattle.follow_violations.proofs.reported.rises.Given as goal

-- the keys so far rise
abbrev pub invariant-loop-place : goal.invariant-loop-place
invariant-loop-place l = IsRising (take l.place l.pairs)

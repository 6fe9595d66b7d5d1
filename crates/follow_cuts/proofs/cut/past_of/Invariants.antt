use Rattle.follow_cuts.proofs.Common.{◌≡◌, take, left_of}
use Rattle.follow_cuts.proofs.cut.past_of.Given as goal

-- the result is right for the calls so far
abbrev pub invariant-loop-place : goal.invariant-loop-place
invariant-loop-place l = l.left.items ≡ left_of (take l.place l.calls) (take l.place l.position.taken.items)

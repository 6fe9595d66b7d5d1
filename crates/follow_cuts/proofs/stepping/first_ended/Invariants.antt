use Rattle.std.specs.Prelude.{◌-◌, length}
use Rattle.follow_cuts.proofs.EndLemmas.{EndsSoFar}
use Rattle.follow_cuts.proofs.stepping.first_ended.Given as goal

-- the result is right for the calls so far
abbrev pub invariant-loop-place : goal.invariant-loop-place
invariant-loop-place l = EndsSoFar l.calls l.taken l.moment l.place l.earliest l.first

-- each step goes on in the list
abbrev pub decreases-loop-place : goal.decreases-loop-place
decreases-loop-place l = length l.calls - l.place

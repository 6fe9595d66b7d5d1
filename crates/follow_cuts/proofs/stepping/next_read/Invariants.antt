use Rattle.std.specs.Prelude.{◌-◌, length, ⊤}
use Rattle.follow_cuts.proofs.stepping.next_read.Given as goal

-- nothing is said of the calls so far
abbrev pub invariant-loop-place : goal.invariant-loop-place
invariant-loop-place l = ⊤

-- each step goes on in the list
abbrev pub decreases-loop-place : goal.decreases-loop-place
decreases-loop-place l = length l.calls - l.place

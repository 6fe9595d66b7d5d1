use Rattle.std.specs.Prelude.{◌-◌, length}
use Rattle.follow_cuts.proofs.EndLemmas.{NoneTies}
use Rattle.follow_cuts.proofs.branching.tying_call.Given as goal

-- none of the calls so far
abbrev pub invariant-loop-place : goal.invariant-loop-place
invariant-loop-place l = NoneTies l.calls l.position.taken.items l.place l.answered l.keys l.position.map

-- each step goes on in the list
abbrev pub decreases-loop-place : goal.decreases-loop-place
decreases-loop-place l = length l.calls - l.place

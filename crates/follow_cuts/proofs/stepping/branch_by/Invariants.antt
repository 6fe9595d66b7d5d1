use Rattle.std.specs.Prelude.{◌-◌, length}
use Rattle.follow_cuts.proofs.WalkLemmas.{IsBranchedBelow}
use Rattle.follow_cuts.proofs.stepping.branch_by.Given as goal

-- for the calls so far
abbrev pub invariant-loop-place : goal.invariant-loop-place
invariant-loop-place l = IsBranchedBelow l.pasts l.branching l.calls l.position l.place l.fn.next.items l.next.items

-- each step goes on in the list
abbrev pub decreases-loop-place : goal.decreases-loop-place
decreases-loop-place l = length l.calls - l.place

use Rattle.std.specs.Prelude.{◌-◌}
use Rattle.follow_cuts.proofs.Common.{◌+◌, length}
use Rattle.follow_cuts.specs.Positions.{AreTaken}
use Rattle.follow_cuts.proofs.position.after_taken.Given as goal

-- the calls so far are taken
abbrev pub invariant-loop-end : goal.invariant-loop-end
invariant-loop-end l = AreTaken l.taken l.place l.end

abbrev pub decreases-loop-end : goal.decreases-loop-end
decreases-loop-end l = length l.taken + 1 - l.end

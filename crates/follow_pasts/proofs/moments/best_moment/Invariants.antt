use Rattle.std.proofs.Common.{length, ◌-◌}
use Rattle.follow_pasts.proofs.moments.best_moment.Given as goal

-- the calls that have not begun
abbrev pub decreases-loop-begun : goal.decreases-loop-begun
decreases-loop-begun l = length l.calls - l.begun

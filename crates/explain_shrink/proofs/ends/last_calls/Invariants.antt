use Rattle.std.proofs.Common.{◌≤◌, ◌-◌, length}
use Rattle.explain_shrink.proofs.ends.last_calls.Given as goal

-- some calls are tried
abbrev pub invariant-loop-size : goal.invariant-loop-size
invariant-loop-size l = 1 ≤ l.size

-- each turn tries more
abbrev pub decreases-loop-size : goal.decreases-loop-size
decreases-loop-size l = length l.kept.items - l.size

use Rattle.follow_violations.proofs.Common.{kept_of, last_put, ◌≡◌, ◌≤◌, None, length, take}
use Rattle.follow_violations.proofs.writers.last_put.Given as goal

-- no later put is of the value
abbrev pub invariant-loop-at : goal.invariant-loop-at
invariant-loop-at l = record {
  within : l.at ≤ length l.puts;
  none : last_put (kept_of l.past) l.key l.value None l.puts ≡ last_put (kept_of l.past) l.key l.value None (take l.at l.puts);
}

abbrev pub decreases-loop-at : goal.decreases-loop-at
decreases-loop-at l = l.at

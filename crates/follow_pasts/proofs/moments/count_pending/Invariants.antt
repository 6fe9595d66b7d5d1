use Rattle.std.proofs.Common.{◌≤◌}
use Rattle.follow_pasts.proofs.moments.count_pending.Given as goal

abbrev pub invariant-loop-call : goal.invariant-loop-call
invariant-loop-call l = l.count ≤ l.call-index

-- The monitor has taken the events so far.
use Rattle.explain_locate.proofs.Common.{take, IsFollowing}
use Rattle.explain_locate.proofs.passing.follow.Given as goal

abbrev pub invariant-loop-place : goal.invariant-loop-place
invariant-loop-place l = IsFollowing l.history.start (take l.place l.history.events) l.monitor

use Rattle.std.proofs.Common.{◌≡◌, ◌++◌, take}
use Rattle.events.proofs.stamped.append_log.Given as goal

abbrev pub invariant-loop-stamp : goal.invariant-loop-stamp
invariant-loop-stamp l = l.stamped.items ≡ l.fn.stamped.items ++ take l.stamp-index l.log

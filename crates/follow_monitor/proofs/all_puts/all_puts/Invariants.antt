use Rattle.std.proofs.Common.{◌≡◌, ◌++◌, take}
use Rattle.follow_monitor.proofs.all_puts.all_puts.Given as goal

abbrev pub invariant-loop-put : goal.invariant-loop-put
invariant-loop-put l = l.puts.items ≡ l.fn.recent.items ++ take l.put-index l.put-items

use Rattle.follow_monitor.proofs.Common.{ArePutsOfEntries, map, deref_pair}
use Rattle.follow_monitor.proofs.all_puts.open_puts.Given as goal

abbrev pub invariant-loop-known : goal.invariant-loop-known
invariant-loop-known l = ArePutsOfEntries (map deref_pair l.yielded) l.puts.items

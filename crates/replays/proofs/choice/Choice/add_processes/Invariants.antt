-- There is one more for each turn of the loop.
use Rattle.std.proofs.Common.{◌≡◌, ◌+◌, length}
use Rattle.replays.proofs.choice.Choice.add_processes.Given as goal

abbrev pub invariant-loop : goal.invariant-loop
invariant-loop l = length l.self.processes.items ≡ length l.fn.self.processes.items + l.counter

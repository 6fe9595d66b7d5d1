-- There are as many as before.
use Rattle.std.proofs.Common.{◌≡◌, length}
use Rattle.replays.proofs.choice.Choice.draw_again.Given as goal

abbrev pub invariant-loop-other : goal.invariant-loop-other
invariant-loop-other l = length l.self.processes.items ≡ length l.fn.self.processes.items

-- The processes stay as they are.
use Rattle.std.proofs.Common.{◌≡◌}
use Rattle.replays.proofs.choice.Choice.add_changes.Given as goal

abbrev pub invariant-loop : goal.invariant-loop
invariant-loop l = l.self.processes ≡ l.fn.self.processes

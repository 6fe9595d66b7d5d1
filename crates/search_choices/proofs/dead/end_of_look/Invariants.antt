use Rattle.std.proofs.Common.{◌≤◌}
use Rattle.search_choices.proofs.dead.end_of_look.Given as goal

abbrev pub invariant-loop-place : goal.invariant-loop-place
invariant-loop-place g l = l.looked ≤ 4096

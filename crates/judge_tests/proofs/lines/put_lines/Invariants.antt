-- At most one call fails in a turn.
use Rattle.std.proofs.Common.{◌≤◌}
use Rattle.judge_tests.proofs.lines.put_lines.Given as goal

abbrev pub invariant-loop-turn : goal.invariant-loop-turn
invariant-loop-turn l = record {
  few : l.source.failures ≤ l._turn;
  counted : l.failed ≤ l._turn;
}

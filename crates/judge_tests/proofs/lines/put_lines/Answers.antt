use Rattle.std.proofs.Common.{Err, ap, arith}
use Rattle.judge_tests.proofs.lines.put_lines.Goals.{in-Ok-true+in_ok-extend_from_slice-in-Ok-true+in_ok-push-in-Ok-true, in-Err-Failed}
use Rattle.judge_tests.proofs.lines.put_lines.Goals as goal

pub loop-turn-preserved : goal.loop-turn-preserved
loop-turn-preserved c = elim c.match-next_line.branch [
  | in-Ok-true+in_ok-extend_from_slice-in-Ok-true+in_ok-push-in-Ok-true w ↦ record {
    few = omega (arith, w.in-Ok-true.ensures.counted, c.loop-turn.invariant.few);
    counted = omega (arith, w.failed-is, c.loop-turn.invariant.counted);
  }
  | in-Err-Failed w ↦ record {
    few = omega (arith, (w.in-Err-Failed.ensures.raised (ap Err w.in-Err-Failed.field-0-is)), c.loop-turn.invariant.few);
    counted = omega (arith, w.failed-is, c.loop-turn.invariant.counted);
  }
]

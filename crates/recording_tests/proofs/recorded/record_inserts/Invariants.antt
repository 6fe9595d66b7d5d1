use Rattle.std.proofs.Common.{◌≤◌}
use Rattle.recorder.specs.Recorders.{IsPassOf}
use Rattle.recording_tests.proofs.recorded.record_inserts.Given as goal

abbrev pub invariant-loop-key : goal.invariant-loop-key
invariant-loop-key l = record {
  own : IsPassOf l.recorder l.pass;
  few : l.done ≤ l.key;
}

use Rattle.running.specs.Groups.{IsGroupOf}
use Rattle.recording_tests.proofs.arenas.report_interleaved.Given as goal

abbrev pub invariant-loop-part : goal.invariant-loop-part
invariant-loop-part l = record {
  first : IsGroupOf l.arena l.first;
  second : IsGroupOf l.arena l.second;
}

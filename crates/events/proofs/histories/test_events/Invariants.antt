use Rattle.events.proofs.Common.{take, AreHistoryEvents, AreOpenAfter}
use Rattle.events.proofs.histories.test_events.Given as goal

abbrev pub invariant-loop-place : goal.invariant-loop-place
invariant-loop-place l = record {
  history : AreHistoryEvents (take l.place l.events);
  open_calls : AreOpenAfter
      (take l.place l.events) l.kept;
}

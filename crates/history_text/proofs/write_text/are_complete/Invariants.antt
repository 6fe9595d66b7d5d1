-- All answers so far are complete.
use Rattle.history_text.proofs.Common.{◌≡◌, take, true, are_complete}
use Rattle.history_text.proofs.write_text.are_complete.Given as goal

abbrev pub invariant-loop-event : goal.invariant-loop-event
invariant-loop-event l = are_complete (take l.event-index l.events) ≡ true

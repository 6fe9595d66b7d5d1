-- No replace so far.
use Rattle.history_text.proofs.Common.{◌≡◌, take, true, list_all, is_plain_event}
use Rattle.history_text.proofs.write_text.are_plain_events.Given as goal

abbrev pub invariant-loop-event : goal.invariant-loop-event
invariant-loop-event l = list_all is_plain_event (take l.event-index l.events) ≡ true

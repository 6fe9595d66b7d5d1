-- The values so far are those of the events.
use Rattle.history_text.proofs.Common.{◌≡◌, map, take, view, event_data}
use Rattle.history_text.proofs.write_text.events_value.Given as goal

abbrev pub invariant-loop-event : goal.invariant-loop-event
invariant-loop-event l = map view l.items.items ≡ map event_data (take l.event-index l.events)

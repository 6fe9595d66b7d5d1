-- The values so far are those of the calls.
use Rattle.cli_explain.proofs.Common.{◌≡◌, map, take, view, event_data}
use Rattle.cli_explain.proofs.longest_fronts.events_value.Given as goal

abbrev pub invariant-loop-call : goal.invariant-loop-call
invariant-loop-call l = map view l.items.items ≡ map event_data (take l.call-index l.calls)

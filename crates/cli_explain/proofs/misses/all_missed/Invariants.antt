-- The values so far are those of the calls.
use Rattle.cli_explain.proofs.Common.{◌≡◌, map, take, view, missed_data}
use Rattle.cli_explain.proofs.misses.all_missed.Given as goal

abbrev pub invariant-loop-call : goal.invariant-loop-call
invariant-loop-call l = map view l.items.items ≡ map (missed_data l.events) (take l.call-index l.missed)

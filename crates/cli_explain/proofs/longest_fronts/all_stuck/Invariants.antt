-- The values so far are those of the calls.
use Rattle.cli_explain.proofs.Common.{◌≡◌, map, take, view, stuck_data}
use Rattle.cli_explain.proofs.longest_fronts.all_stuck.Given as goal

abbrev pub invariant-loop-call : goal.invariant-loop-call
invariant-loop-call l = map view l.items.items ≡ map (stuck_data l.held) (take l.call-index l.next)

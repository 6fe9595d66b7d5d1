-- The values so far are those of their calls.
use Rattle.cli_follow.proofs.Common.{◌≡◌, map, take, view, value_data}
use Rattle.cli_follow.proofs.reports.puts_value.Given as goal

abbrev pub invariant-loop-origin : goal.invariant-loop-origin
invariant-loop-origin l = map view l.items.items ≡ map (λ origin. value_data origin.put) (take l.origin-index l.from)

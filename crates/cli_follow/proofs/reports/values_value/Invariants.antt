-- The values so far are those of the origins.
use Rattle.cli_follow.proofs.Common.{◌≡◌, map, take, view, value_data}
use Rattle.cli_follow.proofs.reports.values_value.Given as goal

abbrev pub invariant-loop-origin : goal.invariant-loop-origin
invariant-loop-origin l = map view l.items.items ≡ map (λ origin. value_data origin.value) (take l.origin-index l.from)

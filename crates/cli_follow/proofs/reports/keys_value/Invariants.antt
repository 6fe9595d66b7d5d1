-- The values so far are those of the keys.
use Rattle.cli_follow.proofs.Common.{◌≡◌, map, take, view, key_data}
use Rattle.cli_follow.proofs.reports.keys_value.Given as goal

abbrev pub invariant-loop-loss : goal.invariant-loop-loss
invariant-loop-loss l = map view l.items.items ≡ map key_data (take l.loss-index l.losses)

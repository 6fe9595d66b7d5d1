-- The lines so far and those of the keys left are all lines.
use Rattle.cli_explain.proofs.Common.{◌≡◌, ◌++◌, drop, string_bytes, loss_lines}
use Rattle.cli_explain.proofs.own_parts.loss_lines.Given as goal

abbrev pub invariant-loop-loss : goal.invariant-loop-loss
invariant-loop-loss l = string_bytes l.text ++ loss_lines l.events (drop l.loss-index l.losses) ≡ loss_lines l.events l.losses

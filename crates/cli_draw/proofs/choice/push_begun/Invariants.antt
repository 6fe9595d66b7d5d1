-- What was found so far, with what is to come, is all.
use Rattle.std.proofs.Common.{◌≡◌, ◌++◌, drop}
use Rattle.cli_draw.specs.Choices.{places_begun}
use Rattle.cli_draw.proofs.choice.push_begun.Given as goal

abbrev pub invariant-loop-loss : goal.invariant-loop-loss
invariant-loop-loss l = l.fn.places.items ++ places_begun l.losses ≡ l.places.items ++ places_begun (drop l.loss-index l.losses)

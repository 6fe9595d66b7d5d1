-- What was found so far, with what is to come, is all.
use Rattle.std.proofs.Common.{◌≡◌, ◌++◌, drop}
use Rattle.cli_draw.specs.Choices.{places_from}
use Rattle.cli_draw.proofs.choice.push_from.Given as goal

abbrev pub invariant-loop-origin : goal.invariant-loop-origin
invariant-loop-origin l = l.fn.places.items ++ places_from l.from ≡ l.places.items ++ places_from (drop l.origin-index l.from)

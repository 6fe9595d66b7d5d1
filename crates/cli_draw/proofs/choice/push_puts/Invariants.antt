use Rattle.std.proofs.Common.{◌≡◌, ◌++◌, drop}
use Rattle.cli_draw.specs.Choices.{places_put}
use Rattle.cli_draw.proofs.choice.push_puts.Given as goal

abbrev pub invariant-loop-pair : goal.invariant-loop-pair
invariant-loop-pair l = l.fn.places.items ++ places_put l.calls l.pairs ≡ l.places.items ++ places_put l.calls (drop l.pair-index l.pairs)

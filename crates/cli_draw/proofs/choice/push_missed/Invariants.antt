use Rattle.std.proofs.Common.{◌≡◌, ◌++◌, drop}
use Rattle.cli_draw.specs.Choices.{places_missed}
use Rattle.cli_draw.proofs.choice.push_missed.Given as goal

abbrev pub invariant-loop-call : goal.invariant-loop-call
invariant-loop-call l = l.fn.places.items ++ places_missed l.calls l.few ≡ l.places.items ++ places_missed l.calls (drop l.call-index l.few)

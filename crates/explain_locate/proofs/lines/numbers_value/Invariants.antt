-- The values so far are those of the numbers.
use Rattle.explain_locate.proofs.Common.{◌≡◌, map, take, view, number_data}
use Rattle.explain_locate.proofs.lines.numbers_value.Given as goal

abbrev pub invariant-loop-number : goal.invariant-loop-number
invariant-loop-number l = map view l.items.items ≡ map number_data (take l.number-index l.numbers)

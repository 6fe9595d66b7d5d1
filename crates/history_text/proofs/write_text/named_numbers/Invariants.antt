-- The values so far are that of the name and those of the numbers.
use Rattle.history_text.proofs.Common.{◌≡◌, ◌∷◌, map, take, string, view, number_data}
use Rattle.history_text.proofs.write_text.named_numbers.Given as goal

abbrev pub invariant-loop-number : goal.invariant-loop-number
invariant-loop-number l = map view l.items.items ≡ string l.name ∷ map number_data (take l.number-index l.numbers)

-- The values so far are those of the pairs.
use Rattle.history_text.proofs.Common.{◌≡◌, map, take, view, pair_data}
use Rattle.history_text.proofs.write_text.pairs_value.Given as goal

abbrev pub invariant-loop-pair : goal.invariant-loop-pair
invariant-loop-pair l = map view l.items.items ≡ map pair_data (take l.pair-index l.pairs)

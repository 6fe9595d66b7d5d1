-- The values read so far are those of the pairs.
use Rattle.history_text.proofs.Common.{◌≡◌, map, take, view, pair_data}
use Rattle.history_text.proofs.read_event.pairs_of.Given as goal

abbrev pub invariant-loop-item : goal.invariant-loop-item
invariant-loop-item l = map view (take l.item-index l.items) ≡ map pair_data l.pairs.items

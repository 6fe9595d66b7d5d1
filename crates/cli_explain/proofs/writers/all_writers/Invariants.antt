-- The values so far are those of the places.
use Rattle.cli_explain.proofs.Common.{◌≡◌, map, take, view, writer_data}
use Rattle.cli_explain.proofs.writers.all_writers.Given as goal

abbrev pub invariant-loop-place : goal.invariant-loop-place
invariant-loop-place l = map view l.items.items ≡ map (writer_data l.events) (take l.place-index l.places)

-- The values read so far spell the pairs, which a history may start with.
use Rattle.history_text.proofs.Common.{◌≡◌, map, take, [], view, IsHistory, pair_data}
use Rattle.history_text.proofs.read_text.start_of.Given as goal

abbrev pub invariant-loop-place : goal.invariant-loop-place
invariant-loop-place l = record {
  spelled : map view (take l.place l.items) ≡ map pair_data l.turns.start;
  no_event : l.turns.events ≡ [];
  history : IsHistory l.turns;
}

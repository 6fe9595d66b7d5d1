-- The values so far are those of the pairs, whose keys rise.
use Rattle.stream_text.proofs.Common.{◌≡◌, map, take, view, KeysRise, pair_data}
use Rattle.stream_text.proofs.read_line.pairs_rising.Given as goal

abbrev pub invariant-loop-place : goal.invariant-loop-place
invariant-loop-place l = record {
  spelled : map view (take l.place l.items) ≡ map pair_data l.pairs.items;
  rising : KeysRise l.pairs.items;
}

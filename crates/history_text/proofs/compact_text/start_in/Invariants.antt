-- What was read so far is the starting pairs, each with a comma after it.
use Rattle.history_text.proofs.Common.{◌≡◌, ◌++◌, length, map, pair_data, ArePlain}
use Rattle.history_text.proofs.CompactLemmas.{values_before}
use Rattle.history_text.proofs.compact_text.start_in.Given as goal

abbrev pub invariant-each : goal.invariant-each
invariant-each l = record {
  so_far : l.text ≡ values_before (map pair_data l.turns.start) ++ l.left;
  plain : ArePlain (map pair_data l.turns.start);
  events : l.turns.events ≡ l.fn.turns.events;
}

abbrev pub decreases-each : goal.decreases-each
decreases-each l = length l.left

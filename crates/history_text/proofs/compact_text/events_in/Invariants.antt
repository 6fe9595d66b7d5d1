-- What was read so far is the events, each with a comma after it.
use Rattle.history_text.proofs.Common.{◌≡◌, ◌++◌, [], length, map, IsTrue, list_all, event_data, may_stand, ArePlain}
use Rattle.history_text.proofs.CompactLemmas.{values_before}
use Rattle.history_text.proofs.compact_text.events_in.Given as goal

abbrev pub invariant-each : goal.invariant-each
invariant-each l = record {
  so_far : l.text ≡ values_before (map event_data l.turns.events) ++ l.left;
  plain : ArePlain (map event_data l.turns.events);
  standing : IsTrue (list_all (may_stand l.version) l.turns.events);
  start : l.turns.start ≡ [];
}

abbrev pub decreases-each : goal.decreases-each
decreases-each l = length l.left

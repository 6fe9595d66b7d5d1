-- The values read so far spell the events, which are those of a history.
use Rattle.history_text.proofs.Common.{◌≡◌, map, take, view, IsHistory, SpellEvents, AreEventsOfText}
use Rattle.history_text.proofs.read_text.events_of.Given as goal

abbrev pub invariant-loop-place : goal.invariant-loop-place
invariant-loop-place l = record {
  start : l.turns.start ≡ l.fn.start.start;
  spelled : SpellEvents l.version (map view (take l.place l.items)) l.turns.events;
  history : IsHistory l.turns;
  events : AreEventsOfText l.version l.turns.events;
}

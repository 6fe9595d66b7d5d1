-- What a contract sees of a history.
use Rattle.std.specs.Prelude.{ℕ, List, [], ◌∷◌, ◌++◌}
use Rattle.events.specs.declared.event.Event.{Event}

-- the pairs that the map holds at the start, and the events that follow
pub record HistoryView : Type 0 where
  pub start : List (ℕ × ℕ)
  pub events : List Event

-- a history that starts with no pairs
abbrev pub with_no_start : List Event → HistoryView
with_no_start events = record { start = []; events = events }

-- a history with one more event, and a history with one more pair at its start
abbrev pub with_event : HistoryView → Event → HistoryView
with_event history event = record { start = history.start; events = history.events ++ event ∷ [] }

abbrev pub with_pair : HistoryView → ℕ × ℕ → HistoryView
with_pair history pair = record { start = history.start ++ pair ∷ []; events = history.events }

-- Logs of stamped events, and the history that they make.
use Rattle.std.specs.Prelude.{ℕ, nat_le, if◌then◌else◌, List, [], ◌∷◌, map, flat_map}
use Rattle.events.specs.declared.event.Event.{Event}

-- an event with the stamp that was drawn for it
abbrev pub Stamped : Type 0
Stamped = ℕ × Event

-- the list with the event inserted before the first one whose stamp is not lower
abbrev pub placed : Stamped → List Stamped → List Stamped
placed e [] = e ∷ []
placed e (f ∷ fs) = if nat_le e.0 f.0 then e ∷ f ∷ fs else f ∷ placed e fs

-- these events, sorted by stamp
abbrev pub by_stamp : List Stamped → List Stamped
by_stamp [] = []
by_stamp (e ∷ es) = placed e (by_stamp es)

-- events by rising stamp, without their stamps
abbrev pub events_by_stamp : List Stamped → List Event
events_by_stamp es = map (λ e. e.1) (by_stamp es)

-- the history of logs: all their events, by rising stamp
abbrev pub history_of_logs : List (List Stamped) → List Event
history_of_logs logs = events_by_stamp (flat_map (λ log. log) logs)

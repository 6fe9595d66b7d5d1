-- Histories with neither starting pairs nor a replace, and with complete answers only.
use Rattle.std.specs.Prelude.{ℕ, Bool, true, false, not, ◌&&◌, List, [], ◌∷◌}
use Rattle.std.specs.List.{list_all}
use Rattle.events.specs.declared.event.Call.{Call}
use Rattle.events.specs.declared.event.Call.TheVariants.{Get, Insert, Remove, Scan, Replace}
use Rattle.events.specs.declared.event.Event.{Event}
use Rattle.events.specs.declared.event.Event.TheVariants.{Invoke, Answer}
use Rattle.events.specs.HistoryView.{HistoryView}
use Rattle.events.specs.Told.{is_complete}

-- whether a call is a replace
abbrev pub is_replace : Call → Bool
is_replace (Get key) = false
is_replace (Insert key value) = false
is_replace (Remove key) = false
is_replace (Scan low high) = false
is_replace (Replace key old new) = true

-- whether an event is neither the invocation of a replace nor a partial answer
abbrev pub is_plain_event : Event → Bool
is_plain_event (Invoke p call) = not (is_replace call)
is_plain_event (Answer p reply) = is_complete reply

-- whether there are no pairs
abbrev pub has_no_pairs : List (ℕ × ℕ) → Bool
has_no_pairs [] = true
has_no_pairs (pair ∷ pairs) = false

-- whether a history has neither starting pairs nor a replace, and complete answers only
abbrev pub is_plain : HistoryView → Bool
is_plain history = has_no_pairs history.start && list_all is_plain_event history.events

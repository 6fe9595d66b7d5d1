-- How much the calls of events overlap.
use Rattle.std.specs.Prelude.{ℕ, ◌+◌, ◌-◌, ◌^◌, min, List, [], ◌∷◌}
use Rattle.events.specs.declared.event.Event.{Event}
use Rattle.events.specs.declared.event.Event.TheVariants.{Invoke, Answer}

-- how many calls are open after these events, from a number of open calls before them: each
-- invocation opens one, and each answer ends one
abbrev pub pending_after : ℕ → List Event → ℕ
pending_after pending [] = pending
pending_after pending (Invoke process call ∷ events) = pending_after (pending + 1) events
pending_after pending (Answer process reply ∷ events) = pending_after (pending - 1) events

-- how many other calls are open at the invocations, in all
abbrev pub overlap_after : ℕ → List Event → ℕ
overlap_after pending [] = 0
overlap_after pending (Invoke process call ∷ events) = pending + overlap_after (pending + 1) events
overlap_after pending (Answer process reply ∷ events) = overlap_after (pending - 1) events

-- the overlap of all events from the first on, as far as 64 bits count
abbrev pub overlap_of : List Event → ℕ
overlap_of events = min (overlap_after 0 events) (2 ^ 64 - 1)

-- The lanes of a picture.
use Rattle.std.specs.Prelude.{ℕ, Bool, List, filter}
use Rattle.std.specs.List.{list_any, range_with_len}
use Rattle.events.specs.declared.event.Event.{Event}
use Rattle.events.specs.Events.{process_of}
use Rattle.events.specs.Limits.{process_limit}
use Rattle.std.specs.Prelude.{◌==◌}

-- whether a process has an event, and so a call
abbrev pub has_events : List Event → ℕ → Bool
has_events events process = list_any (λ event. process_of event == process) events

-- a lane for each process that has a call, by rising number
unfoldable pub lanes : List Event → List ℕ
lanes events = filter (has_events events) (range_with_len 0 process_limit)

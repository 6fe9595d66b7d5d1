-- Calls that undo calls.
use Rattle.std.specs.Prelude.{ℕ, Option, Some, None}
use Rattle.events.specs.declared.event.Call.{Call}
use Rattle.events.specs.declared.event.Call.TheVariants.{Insert, Remove}
use Rattle.map_object.specs.MapObject.{Contents, after}

-- the pairs after what undoes a call
abbrev pub undone : Contents → Option Call → Contents
undone m None = m
undone m (Some call) = after m call

-- the call that gives a key its old value back, or none
abbrev pub restoring : ℕ → Option ℕ → Call
restoring key None = Remove key
restoring key (Some value) = Insert key value

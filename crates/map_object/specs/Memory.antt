-- Which calls of a sorted map take memory.
use Rattle.std.specs.Prelude.{◌≡◌, ⊤, None}
use Rattle.events.specs.declared.event.Call.{Call}
use Rattle.events.specs.declared.event.Call.TheVariants.{Get, Insert, Remove, Scan, Replace}
use Rattle.map_object.specs.MapObject.{Contents, value_at}

-- the call takes memory of its own: a scan, and an insert at a key without a value
abbrev pub TakesMemory : Contents → Call → Type 0
TakesMemory m (Get key) = ⊥
TakesMemory m (Insert key value) = value_at m key ≡ None
TakesMemory m (Remove key) = ⊥
TakesMemory m (Scan low high) = ⊤
TakesMemory m (Replace key expected value) = ⊥

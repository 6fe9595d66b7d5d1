-- What a call finds at its key: a value, or not the one that it expects.
use Rattle.std.specs.Prelude.{not, IsTrue, is_some}
use Rattle.events.specs.declared.event.Call.{Call}
use Rattle.events.specs.declared.event.Call.TheVariants.{Get, Insert, Remove, Scan, Replace}
use Rattle.map_object.specs.MapObject.{Contents, value_at, is_just}

-- a call that names one key finds a value there
abbrev pub FindsValue : Contents → Call → Type 0
FindsValue m (Get key) = IsTrue (is_some (value_at m key))
FindsValue m (Insert key value) = IsTrue (is_some (value_at m key))
FindsValue m (Remove key) = IsTrue (is_some (value_at m key))
FindsValue m (Scan low high) = ⊥
FindsValue m (Replace key expected value) = IsTrue (is_some (value_at m key))

-- a replace does not find the value that it expects: another is at its key, or none
abbrev pub MissesValue : Contents → Call → Type 0
MissesValue m (Get key) = ⊥
MissesValue m (Insert key value) = ⊥
MissesValue m (Remove key) = ⊥
MissesValue m (Scan low high) = ⊥
MissesValue m (Replace key expected value) = IsTrue (not (is_just (value_at m key) expected))

-- The change that a call makes to pairs.
use Rattle.std.specs.Prelude.{Option, Some, None}
use Rattle.map_object.specs.MapObject.{Contents}
use Rattle.memo.specs.Differences.{with_value}
use Rattle.memo.specs.declared.change.Change.{Change}

-- the pairs after a change; without one they stay
abbrev pub changed : Option Change → Contents → Contents
changed None m = m
changed (Some change) m = with_value change.key change.value m

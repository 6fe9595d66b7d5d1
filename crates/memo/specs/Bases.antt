-- Pairs that are shared.
use Rattle.std.specs.Prelude.{Option, Some, None, []}
use Rattle.map_object.specs.MapObject.{Contents}

-- the shared pairs, or none if no pairs are stored
abbrev pub pairs_shared : Option Contents → Contents
pairs_shared (Some pairs) = pairs
pairs_shared None = []

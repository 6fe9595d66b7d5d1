-- The configurations of a memo, from their stored forms.
use Rattle.std.specs.Prelude.{List, map}
use Rattle.map_object.specs.MapObject.{Contents}
use Rattle.memo.specs.Configurations.{Configuration}
use Rattle.memo.specs.Kept.{Kept, configuration_from}

-- the configurations that are stored so
abbrev pub configurations_from : Contents → List Kept → List Configuration
configurations_from start visited = map (configuration_from start) visited

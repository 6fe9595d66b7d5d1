use Rattle.art_schedules.proofs.trees.OneMap.{maps-are-one}
use Rattle.art_schedules.proofs.laws.trees.maps_are_one.Goals as goal

pub returns : goal.returns
returns c = maps-are-one

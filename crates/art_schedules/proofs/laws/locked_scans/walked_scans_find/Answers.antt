use Rattle.art_schedules.proofs.locked_scans.FindLemmas.{walked-scans-find}
use Rattle.art_schedules.proofs.laws.locked_scans.walked_scans_find.Goals as goal

pub returns : goal.returns
returns c = walked-scans-find c.walks_are_the_maps.ensures.maps

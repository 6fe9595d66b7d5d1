use Rattle.art_schedules.proofs.walks.ScanLemmas.{scans-are-the-maps}
use Rattle.art_schedules.proofs.laws.walks.scans_are_the_maps.Goals as goal

pub returns : goal.returns
returns c = scans-are-the-maps c.same_trees_are_one.ensures c.maps_are_one.ensures c.trees_are_walked.ensures

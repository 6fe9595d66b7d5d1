use Rattle.art_schedules.proofs.locked_scans.TreeLemmas.{scans-take-live}
use Rattle.art_schedules.proofs.laws.locked_scans.scans_take_live.Goals as goal

pub returns : goal.returns
returns c = scans-take-live

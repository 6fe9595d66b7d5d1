use Rattle.art_schedules.proofs.locked_scans.ReachLemmas.{scans-take-reached}
use Rattle.art_schedules.proofs.laws.locked_scans.scans_take_reached.Goals as goal

pub returns : goal.returns
returns c = scans-take-reached

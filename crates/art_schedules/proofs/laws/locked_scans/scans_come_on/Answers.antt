use Rattle.art_schedules.proofs.locked_scans.KnowLemmas.{scans-come-on}
use Rattle.art_schedules.proofs.laws.locked_scans.scans_come_on.Goals as goal

pub returns : goal.returns
returns c = scans-come-on c.kept_trees_follow.ensures

use Rattle.art_schedules.proofs.locked_scans.OwnLemmas.{found-scans-stay}
use Rattle.art_schedules.proofs.laws.locked_scans.found_scans_stay.Goals as goal

pub returns : goal.returns
returns c = found-scans-stay

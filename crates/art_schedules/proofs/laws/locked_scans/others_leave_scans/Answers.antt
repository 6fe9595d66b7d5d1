use Rattle.art_schedules.proofs.locked_scans.RunLemmas.{others-leave-scans}
use Rattle.art_schedules.proofs.laws.locked_scans.others_leave_scans.Goals as goal

pub returns : goal.returns
returns c = others-leave-scans

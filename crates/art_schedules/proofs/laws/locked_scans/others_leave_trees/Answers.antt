use Rattle.art_schedules.proofs.locked_scans.KnowLemmas.{others-leave-trees}
use Rattle.art_schedules.proofs.laws.locked_scans.others_leave_trees.Goals as goal

pub returns : goal.returns
returns c = others-leave-trees

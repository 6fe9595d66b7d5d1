use Rattle.art_schedules.proofs.trees.Leaves.{leaves-are-removed}
use Rattle.art_schedules.proofs.laws.trees.leaves_are_removed.Goals as goal

pub returns : goal.returns
returns c = leaves-are-removed

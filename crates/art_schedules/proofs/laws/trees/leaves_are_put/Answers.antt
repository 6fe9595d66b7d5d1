use Rattle.art_schedules.proofs.trees.Leaves.{leaves-are-put}
use Rattle.art_schedules.proofs.laws.trees.leaves_are_put.Goals as goal

pub returns : goal.returns
returns c = leaves-are-put

use Rattle.art_schedules.proofs.trees.SameTrees.{same-trees}
use Rattle.art_schedules.proofs.laws.trees.same_trees_are_one.Goals as goal

pub returns : goal.returns
returns c = same-trees

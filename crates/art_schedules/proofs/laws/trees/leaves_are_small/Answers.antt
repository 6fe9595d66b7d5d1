use Rattle.art_schedules.proofs.trees.Descents.{leaves-are-small}
use Rattle.art_schedules.proofs.laws.trees.leaves_are_small.Goals as goal

pub returns : goal.returns
returns c = leaves-are-small

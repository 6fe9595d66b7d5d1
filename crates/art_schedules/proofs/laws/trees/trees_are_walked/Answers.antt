use Rattle.art_schedules.proofs.trees.Walks.{trees-are-walked}
use Rattle.art_schedules.proofs.laws.trees.trees_are_walked.Goals as goal

pub returns : goal.returns
returns c = trees-are-walked

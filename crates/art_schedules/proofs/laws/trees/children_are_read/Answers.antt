use Rattle.art_schedules.proofs.trees.Children.{children-are-read}
use Rattle.art_schedules.proofs.laws.trees.children_are_read.Goals as goal

pub returns : goal.returns
returns c = children-are-read

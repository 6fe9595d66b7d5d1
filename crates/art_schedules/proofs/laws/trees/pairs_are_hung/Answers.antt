use Rattle.art_schedules.proofs.trees.Pairs.{pairs-are-hung}
use Rattle.art_schedules.proofs.laws.trees.pairs_are_hung.Goals as goal

pub returns : goal.returns
returns c = pairs-are-hung

use Rattle.art_schedules.proofs.trees.Grown.{grown-rows-are-hung}
use Rattle.art_schedules.proofs.laws.trees.grown_rows_are_hung.Goals as goal

pub returns : goal.returns
returns c = grown-rows-are-hung

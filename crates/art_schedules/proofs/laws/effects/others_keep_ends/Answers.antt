use Rattle.art_schedules.proofs.effects.OtherLemmas.{others-keep-ends}
use Rattle.art_schedules.proofs.laws.effects.others_keep_ends.Goals as goal

pub returns : goal.returns
returns c = others-keep-ends c.children_are_read.ensures

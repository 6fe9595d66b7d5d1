use Rattle.art_schedules.proofs.effects.OtherLemmas.{others-keep-marked}
use Rattle.art_schedules.proofs.laws.effects.others_keep_marked.Goals as goal

pub returns : goal.returns
returns c = others-keep-marked c.children_are_read.ensures

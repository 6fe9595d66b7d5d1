use Rattle.art_schedules.proofs.effects.OtherLemmas.{others-keep-work}
use Rattle.art_schedules.proofs.laws.effects.others_keep_work.Goals as goal

pub returns : goal.returns
returns c = others-keep-work c.children_are_read.ensures

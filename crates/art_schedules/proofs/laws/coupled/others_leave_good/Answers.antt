use Rattle.art_schedules.proofs.coupled.GoodLemmas.{others-leave-good}
use Rattle.art_schedules.proofs.laws.coupled.others_leave_good.Goals as goal

pub returns : goal.returns
returns c = others-leave-good

use Rattle.art_schedules.proofs.coupled.MoveLemmas.{others-leave-ways}
use Rattle.art_schedules.proofs.laws.coupled.others_leave_ways.Goals as goal

pub returns : goal.returns
returns c = others-leave-ways

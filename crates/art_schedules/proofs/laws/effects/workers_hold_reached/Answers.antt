use Rattle.art_schedules.proofs.effects.WorkBeginLemmas.{work-in}
use Rattle.art_schedules.proofs.laws.effects.workers_hold_reached.Goals as goal

pub returns : goal.returns
returns c = work-in

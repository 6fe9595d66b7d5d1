use Rattle.art_schedules.proofs.effects.WorkBeginLemmas.{end-in}
use Rattle.art_schedules.proofs.laws.effects.leavers_hold_reached.Goals as goal

pub returns : goal.returns
returns c = end-in

use Rattle.art_schedules.proofs.coupled.MoveLemmas.{found-is-answered}
use Rattle.art_schedules.proofs.laws.coupled.found_is_answered.Goals as goal

pub returns : goal.returns
returns c = found-is-answered

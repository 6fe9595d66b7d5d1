use Rattle.art_schedules.proofs.coupled.MoveLemmas.{seekers-are-not-answered}
use Rattle.art_schedules.proofs.laws.coupled.seekers_are_not_answered.Goals as goal

pub returns : goal.returns
returns c = seekers-are-not-answered

use Rattle.art_schedules.proofs.coupled.MoveLemmas.{ways-take-reached}
use Rattle.art_schedules.proofs.laws.coupled.ways_take_reached.Goals as goal

pub returns : goal.returns
returns c = ways-take-reached

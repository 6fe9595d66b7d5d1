use Rattle.art_schedules.proofs.optimistic.OwnStepLemmas.{own-findings-stay}
use Rattle.art_schedules.proofs.laws.optimistic.own_findings_stay.Goals as goal

pub returns : goal.returns
returns c = own-findings-stay

use Rattle.follow_laws.proofs.StepLemmas.{parts_stay}
use Rattle.follow_laws.proofs.laws.parts_stay.Goals as goal

pub returns : goal.returns
returns c = parts_stay

use Rattle.follow_laws.proofs.WiderLemmas.{pasts_may_stay}
use Rattle.follow_laws.proofs.laws.pasts_may_stay.Goals as goal

pub returns : goal.returns
returns c = pasts_may_stay

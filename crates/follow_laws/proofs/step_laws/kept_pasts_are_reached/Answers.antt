use Rattle.follow_laws.proofs.KeptReachLemmas.{kept_pasts_are_reached}
use Rattle.follow_laws.proofs.step_laws.kept_pasts_are_reached.Goals as goal

pub returns : goal.returns
returns c = kept_pasts_are_reached

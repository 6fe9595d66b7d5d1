use Rattle.follow_laws.proofs.StepLemmas.{dead_pasts_go}
use Rattle.follow_laws.proofs.laws.dead_pasts_go.Goals as goal

pub returns : goal.returns
returns c = dead_pasts_go

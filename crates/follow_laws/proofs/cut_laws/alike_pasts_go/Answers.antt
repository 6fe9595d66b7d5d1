use Rattle.follow_laws.proofs.KeptAlikeLemmas.{alike_pasts_go}
use Rattle.follow_laws.proofs.cut_laws.alike_pasts_go.Goals as goal

pub returns : goal.returns
returns c = alike_pasts_go

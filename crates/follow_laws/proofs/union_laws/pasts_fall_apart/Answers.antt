use Rattle.follow_laws.proofs.UnionLemmas.{pasts_fall_apart}
use Rattle.follow_laws.proofs.union_laws.pasts_fall_apart.Goals as goal

pub returns : goal.returns
returns c = pasts_fall_apart

use Rattle.follow_laws.proofs.UnionLemmas.{pasts_unite}
use Rattle.follow_laws.proofs.union_laws.pasts_unite.Goals as goal

pub returns : goal.returns
returns c = pasts_unite

use Rattle.follow_laws.proofs.StepLemmas.{parts_unite}
use Rattle.follow_laws.proofs.laws.parts_unite.Goals as goal

pub returns : goal.returns
returns c = parts_unite

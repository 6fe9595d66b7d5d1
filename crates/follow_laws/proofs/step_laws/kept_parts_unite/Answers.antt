use Rattle.follow_laws.proofs.KeptUniteLemmas.{kept_parts_unite}
use Rattle.follow_laws.proofs.step_laws.kept_parts_unite.Goals as goal

pub returns : goal.returns
returns c = kept_parts_unite

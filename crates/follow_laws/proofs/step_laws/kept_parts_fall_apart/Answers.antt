use Rattle.follow_laws.proofs.KeptUniteLemmas.{kept_parts_fall_apart}
use Rattle.follow_laws.proofs.step_laws.kept_parts_fall_apart.Goals as goal

pub returns : goal.returns
returns c = kept_parts_fall_apart

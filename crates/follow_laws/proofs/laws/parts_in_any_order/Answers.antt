use Rattle.follow_laws.proofs.StepLemmas.{parts_in_any_order}
use Rattle.follow_laws.proofs.laws.parts_in_any_order.Goals as goal

pub returns : goal.returns
returns c = parts_in_any_order

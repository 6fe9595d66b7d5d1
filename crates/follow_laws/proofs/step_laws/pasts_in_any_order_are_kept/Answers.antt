use Rattle.follow_laws.proofs.PastLemmas.{pasts_in_any_order_are_kept}
use Rattle.follow_laws.proofs.step_laws.pasts_in_any_order_are_kept.Goals as goal

pub returns : goal.returns
returns c = pasts_in_any_order_are_kept

use Rattle.explain_shrink.proofs.RelaxedLemmas.{relaxed_order}
use Rattle.explain_shrink.proofs.laws.relaxed_calls_have_orders.Goals as goal

pub returns : goal.returns
returns c = relaxed_order

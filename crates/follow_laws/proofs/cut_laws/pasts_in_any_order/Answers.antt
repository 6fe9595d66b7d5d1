use Rattle.follow_laws.proofs.DropLemmas.{pasts_in_any_order}
use Rattle.follow_laws.proofs.cut_laws.pasts_in_any_order.Goals as goal

pub returns : goal.returns
returns c = pasts_in_any_order

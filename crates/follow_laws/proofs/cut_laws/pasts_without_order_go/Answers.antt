use Rattle.follow_laws.proofs.DropLemmas.{pasts_without_order_go}
use Rattle.follow_laws.proofs.cut_laws.pasts_without_order_go.Goals as goal

pub returns : goal.returns
returns c = pasts_without_order_go

use Rattle.follow_laws.proofs.KeptNextLemmas.{pasts_come_next}
use Rattle.follow_laws.proofs.cut_laws.pasts_come_next.Goals as goal

pub returns : goal.returns
returns c = pasts_come_next

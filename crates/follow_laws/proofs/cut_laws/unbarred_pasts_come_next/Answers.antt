use Rattle.follow_laws.proofs.KeptBarredLemmas.{unbarred_pasts_come_next}
use Rattle.follow_laws.proofs.cut_laws.unbarred_pasts_come_next.Goals as goal

pub returns : goal.returns
returns c = unbarred_pasts_come_next

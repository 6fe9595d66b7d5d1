use Rattle.follow_laws.proofs.BarredLemmas.{unbarred_calls_come_next}
use Rattle.follow_laws.proofs.laws.unbarred_calls_come_next.Goals as goal

pub returns : goal.returns
returns c = unbarred_calls_come_next

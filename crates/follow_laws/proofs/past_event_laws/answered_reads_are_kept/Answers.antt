use Rattle.follow_laws.proofs.PastEventLemmas.{answered_reads_are_kept}
use Rattle.follow_laws.proofs.past_event_laws.answered_reads_are_kept.Goals as goal

pub returns : goal.returns
returns c = answered_reads_are_kept

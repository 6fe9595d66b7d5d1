use Rattle.follow_laws.proofs.PastEventLemmas.{refused_reads_are_not_kept}
use Rattle.follow_laws.proofs.past_event_laws.refused_reads_are_not_kept.Goals as goal

pub returns : goal.returns
returns c = refused_reads_are_not_kept

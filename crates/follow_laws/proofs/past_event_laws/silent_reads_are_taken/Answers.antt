use Rattle.follow_laws.proofs.TakenLemmas.{silent_reads_are_taken}
use Rattle.follow_laws.proofs.past_event_laws.silent_reads_are_taken.Goals as goal

pub returns : goal.returns
returns c = silent_reads_are_taken

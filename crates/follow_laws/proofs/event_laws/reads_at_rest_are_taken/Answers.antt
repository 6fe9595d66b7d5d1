use Rattle.follow_laws.proofs.KeptRestLemmas.{reads_at_rest_are_taken}
use Rattle.follow_laws.proofs.event_laws.reads_at_rest_are_taken.Goals as goal

pub returns : goal.returns
returns c = reads_at_rest_are_taken

use Rattle.follow_laws.proofs.KeptAnswerLemmas.{reads_are_answered}
use Rattle.follow_laws.proofs.event_laws.reads_are_answered.Goals as goal

pub returns : goal.returns
returns c = reads_are_answered

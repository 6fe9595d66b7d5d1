use Rattle.follow_laws.proofs.KeptAnswerLemmas.{changes_are_answered}
use Rattle.follow_laws.proofs.event_laws.changes_are_answered.Goals as goal

pub returns : goal.returns
returns c = changes_are_answered

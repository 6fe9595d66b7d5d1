use Rattle.follow_laws.proofs.AnswerLemmas.{refused_calls_are_not_left}
use Rattle.follow_laws.proofs.call_laws.refused_calls_are_not_left.Goals as goal

pub returns : goal.returns
returns c = refused_calls_are_not_left

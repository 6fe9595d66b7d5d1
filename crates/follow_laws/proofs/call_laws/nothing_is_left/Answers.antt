use Rattle.follow_laws.proofs.AnswerLemmas.{nothing_is_left}
use Rattle.follow_laws.proofs.call_laws.nothing_is_left.Goals as goal

pub returns : goal.returns
returns c = nothing_is_left

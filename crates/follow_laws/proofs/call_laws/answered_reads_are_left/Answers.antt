use Rattle.follow_laws.proofs.AnswerLemmas.{answered_reads_are_left}
use Rattle.follow_laws.proofs.call_laws.answered_reads_are_left.Goals as goal

pub returns : goal.returns
returns c = answered_reads_are_left

use Rattle.certificate.proofs.TellLemmas.{tell_by_value}
use Rattle.certificate.proofs.partial_laws.partial_answers_are_legal.Goals as goal

pub returns : goal.returns
returns c = tell_by_value

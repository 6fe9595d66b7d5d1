use Rattle.certificate.proofs.TellLemmas.{answers_do}
use Rattle.certificate.proofs.partial_laws.answers_do_calls.Goals as goal

pub returns : goal.returns
returns c = answers_do

use Rattle.certificate.proofs.FoundAfterOtherLemmas.{missed}
use Rattle.certificate.proofs.partial_laws.found_after_other_is_missed.Goals as goal

pub returns : goal.returns
returns c = missed

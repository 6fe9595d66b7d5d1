use Rattle.certificate.proofs.CacheOrderLemmas.{refuted}
use Rattle.certificate.proofs.partial_laws.lost_writes_are_refuted.Goals as goal

pub returns : goal.returns
returns c = refuted

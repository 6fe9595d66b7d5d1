use Rattle.certificate.proofs.CacheOrderLemmas.{no_lost_writes}
use Rattle.certificate.proofs.partial_laws.evicted_keys_are_no_lost_writes.Goals as goal

pub returns : goal.returns
returns c = no_lost_writes

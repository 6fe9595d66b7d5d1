use Rattle.certificate.proofs.CacheOrderLemmas.{lossy_maps}
use Rattle.certificate.proofs.partial_laws.recorded_caches_are_lossy_maps.Goals as goal

pub returns : goal.returns
returns c = lossy_maps

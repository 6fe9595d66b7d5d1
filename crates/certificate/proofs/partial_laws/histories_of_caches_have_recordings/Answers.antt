use Rattle.certificate.proofs.CacheTurnLemmas.{have_recordings}
use Rattle.certificate.proofs.partial_laws.histories_of_caches_have_recordings.Goals as goal

pub returns : goal.returns
returns c = have_recordings

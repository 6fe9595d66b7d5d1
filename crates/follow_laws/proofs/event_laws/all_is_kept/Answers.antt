use Rattle.follow_laws.proofs.KeptEventLemmas.{all_is_kept}
use Rattle.follow_laws.proofs.event_laws.all_is_kept.Goals as goal

pub returns : goal.returns
returns c = all_is_kept

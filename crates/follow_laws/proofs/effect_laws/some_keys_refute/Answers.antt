use Rattle.follow_laws.proofs.ApartLemmas.{some_refute}
use Rattle.follow_laws.proofs.effect_laws.some_keys_refute.Goals as goal

pub returns : goal.returns
returns c = some_refute

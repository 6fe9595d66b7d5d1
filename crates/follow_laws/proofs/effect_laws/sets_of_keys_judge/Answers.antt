use Rattle.follow_laws.proofs.ApartLemmas.{sets_judge}
use Rattle.follow_laws.proofs.effect_laws.sets_of_keys_judge.Goals as goal

pub returns : goal.returns
returns c = sets_judge

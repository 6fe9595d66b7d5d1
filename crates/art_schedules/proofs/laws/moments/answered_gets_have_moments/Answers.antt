use Rattle.art_schedules.proofs.moments.ReadLemmas.{runs-have-gets}
use Rattle.art_schedules.proofs.laws.moments.answered_gets_have_moments.Goals as goal

pub returns : goal.returns
returns c = runs-have-gets

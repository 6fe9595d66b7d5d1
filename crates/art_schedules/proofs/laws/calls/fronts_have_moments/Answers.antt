use Rattle.art_schedules.proofs.calls.FrontLemmas.{front-moments}
use Rattle.art_schedules.proofs.laws.calls.fronts_have_moments.Goals as goal

pub returns : goal.returns
returns c = front-moments

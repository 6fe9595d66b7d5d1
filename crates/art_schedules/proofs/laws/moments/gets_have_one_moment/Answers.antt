use Rattle.art_schedules.proofs.moments.MomentLemmas.{get-has-moment}
use Rattle.art_schedules.proofs.laws.moments.gets_have_one_moment.Goals as goal

pub returns : goal.returns
returns c = get-has-moment

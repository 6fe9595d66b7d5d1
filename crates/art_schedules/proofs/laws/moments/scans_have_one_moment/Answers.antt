use Rattle.art_schedules.proofs.moments.MomentLemmas.{scan-has-moment}
use Rattle.art_schedules.proofs.laws.moments.scans_have_one_moment.Goals as goal

pub returns : goal.returns
returns c = scan-has-moment

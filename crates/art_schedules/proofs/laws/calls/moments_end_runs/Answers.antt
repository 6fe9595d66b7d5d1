use Rattle.art_schedules.proofs.calls.FrontLemmas.{runs-until}
use Rattle.art_schedules.proofs.laws.calls.moments_end_runs.Goals as goal

pub returns : goal.returns
returns c = runs-until

use Rattle.art_schedules.proofs.calls.RunCallLemmas.{run-has-calls}
use Rattle.art_schedules.proofs.laws.calls.runs_have_calls.Goals as goal

pub returns : goal.returns
returns c = run-has-calls

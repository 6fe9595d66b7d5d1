use Rattle.art_schedules.proofs.coupled.MoveLemmas.{calls-begin}
use Rattle.art_schedules.proofs.laws.coupled.calls_begin.Goals as goal

pub returns : goal.returns
returns c = calls-begin

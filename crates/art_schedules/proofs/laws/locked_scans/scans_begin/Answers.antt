use Rattle.art_schedules.proofs.locked_scans.FindLemmas.{scans-begin}
use Rattle.art_schedules.proofs.laws.locked_scans.scans_begin.Goals as goal

pub returns : goal.returns
returns c = scans-begin

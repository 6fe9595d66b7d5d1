use Rattle.art_schedules.proofs.locked_scans.FindLemmas.{found-scans-answer}
use Rattle.art_schedules.proofs.laws.locked_scans.found_scans_answer.Goals as goal

pub returns : goal.returns
returns c = found-scans-answer

use Rattle.art_schedules.proofs.locked_scans.KnowLemmas.{walking-scans-ask}
use Rattle.art_schedules.proofs.laws.locked_scans.walking_scans_ask.Goals as goal

pub returns : goal.returns
returns c = walking-scans-ask

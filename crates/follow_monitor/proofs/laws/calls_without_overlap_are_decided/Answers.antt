use Rattle.follow_monitor.proofs.OverlapLemmas.{no_doubt_without_overlap}
use Rattle.follow_monitor.proofs.laws.calls_without_overlap_are_decided.Goals as goal

pub returns : goal.returns
returns c = no_doubt_without_overlap

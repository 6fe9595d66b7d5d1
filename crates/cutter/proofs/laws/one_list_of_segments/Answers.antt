use Rattle.cutter.proofs.UniqueSegmentLemmas.{AreSegments-unique_of_history}
use Rattle.cutter.proofs.laws.one_list_of_segments.Goals as goal

pub returns : goal.returns
returns c = AreSegments-unique_of_history

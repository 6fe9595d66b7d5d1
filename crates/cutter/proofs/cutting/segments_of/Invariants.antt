use Rattle.cutter.proofs.Common.{length, operations}
use Rattle.cutter.proofs.WalkLemmas.{AreSegmentsBefore}
use Rattle.cutter.proofs.cutting.segments_of.Given as goal

abbrev pub invariant-loop-rest : goal.invariant-loop-rest
invariant-loop-rest l = AreSegmentsBefore l.history.start (operations l.history.events) l.rest l.segments.items

abbrev pub decreases-loop-rest : goal.decreases-loop-rest
decreases-loop-rest l = length l.rest

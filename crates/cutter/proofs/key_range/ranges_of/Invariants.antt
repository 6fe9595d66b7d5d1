use Rattle.cutter.proofs.KeyRangeLemmas.{AreRangesBelow}
use Rattle.cutter.proofs.key_range.ranges_of.Given as goal

abbrev pub invariant-loop-number : goal.invariant-loop-number
invariant-loop-number l = AreRangesBelow l.calls l.number l.ranges.items

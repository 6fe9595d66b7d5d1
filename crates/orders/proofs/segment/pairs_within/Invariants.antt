use Rattle.orders.proofs.Common.{◌≡◌, take, within}
use Rattle.orders.proofs.segment.pairs_within.Given as goal

abbrev pub invariant-loop-pair : goal.invariant-loop-pair
invariant-loop-pair l = l.taken.items ≡ within l.lo l.hi (take l.pair-index l.pairs)

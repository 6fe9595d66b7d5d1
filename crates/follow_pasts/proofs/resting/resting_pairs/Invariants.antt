use Rattle.follow_pasts.proofs.Common.{take, covered, AreResting}
use Rattle.follow_pasts.proofs.resting.resting_pairs.Given as goal

-- the result is right for the pairs so far
abbrev pub invariant-loop-pair : goal.invariant-loop-pair
invariant-loop-pair l = AreResting (covered l.busy) (take l.pair-index l.pair-items) l.pairs.items

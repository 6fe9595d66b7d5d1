use Rattle.follow_pasts.proofs.Common.{◌≡◌, take, pairs_at, covered}
use Rattle.follow_pasts.proofs.resting.only.Given as goal

-- the result is right for the pairs so far
abbrev pub invariant-loop-pair : goal.invariant-loop-pair
invariant-loop-pair l = l.pairs.items ≡ pairs_at (covered l.busy) (take l.pair-index l.pair-items)

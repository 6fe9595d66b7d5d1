use Rattle.std.proofs.Common.{take}
use Rattle.follow_pasts.proofs.WithinLemmas.{AreRead}
use Rattle.follow_pasts.proofs.resting.pairs_within.Given as goal

-- the pairs of the keys so far
abbrev pub invariant-loop-key : goal.invariant-loop-key
invariant-loop-key l = AreRead l.rest l.pairs.items (take l.key-index l.key-items)

use Rattle.follow_pasts.proofs.Common.{take, AreAllPairs}
use Rattle.follow_pasts.proofs.uniting.all_pairs.Given as goal

-- the result is right for the pasts so far
abbrev pub invariant-loop-past : goal.invariant-loop-past
invariant-loop-past l = AreAllPairs (take l.past-index l.pasts) l.others l.all.items

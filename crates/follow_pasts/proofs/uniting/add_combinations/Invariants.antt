use Rattle.follow_pasts.proofs.Common.{take, HasRow}
use Rattle.follow_pasts.proofs.uniting.add_combinations.Given as goal

-- the result is right for the others so far
abbrev pub invariant-loop-other : goal.invariant-loop-other
invariant-loop-other l = HasRow l.past (take l.other-index l.others) l.fn.all.items l.all.items

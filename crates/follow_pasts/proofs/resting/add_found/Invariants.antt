use Rattle.follow_pasts.proofs.Common.{take, HasFound}
use Rattle.follow_pasts.proofs.resting.add_found.Given as goal

-- the keys of what was found so far
abbrev pub invariant-loop-one : goal.invariant-loop-one
invariant-loop-one l = HasFound (take l.one-index l.found) l.fn.busy.items l.busy.items

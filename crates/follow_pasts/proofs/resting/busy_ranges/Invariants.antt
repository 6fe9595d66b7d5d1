use Rattle.std.proofs.Common.{take}
use Rattle.follow_pasts.proofs.BusyLemmas.{AreBusySoFar}
use Rattle.follow_pasts.proofs.resting.busy_ranges.Given as goal

-- the result is right for the pasts so far
abbrev pub invariant-loop-past : goal.invariant-loop-past
invariant-loop-past l = AreBusySoFar l.pasts (take l.past-index l.pasts) l.busy.items

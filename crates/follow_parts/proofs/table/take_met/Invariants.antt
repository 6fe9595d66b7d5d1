use Rattle.std.proofs.Common.{length, ◌-◌}
use Rattle.follow_parts.proofs.ReadingLemmas.{AreMeeting}
use Rattle.follow_parts.proofs.table.take_met.Given as goal

-- of the parts so far
abbrev pub invariant-loop-place : goal.invariant-loop-place
invariant-loop-place l = AreMeeting l.low l.high l.fn.parts.items l.parts.items l.met.items l.place

abbrev pub decreases-loop-place : goal.decreases-loop-place
decreases-loop-place l = length l.parts.items - l.place

use Rattle.events.proofs.Common.{take, IsStart}
use Rattle.events.proofs.starts.test_start.Given as goal

abbrev pub invariant-loop-place : goal.invariant-loop-place
invariant-loop-place l = IsStart (take l.place l.pairs)

use Rattle.cutter.proofs.ChainLemmas.{IsWalked}
use Rattle.cutter.proofs.cutting.chained_len.Given as goal

abbrev pub invariant-loop-place : goal.invariant-loop-place
invariant-loop-place l = IsWalked l.ranges l.place l.reach

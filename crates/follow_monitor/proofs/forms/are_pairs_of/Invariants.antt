use Rattle.follow_monitor.proofs.Common.{ArePairsOf, take}
use Rattle.follow_monitor.proofs.forms.are_pairs_of.Given as goal

-- the pairs so far are some that the scan may report
abbrev pub invariant-loop-place : goal.invariant-loop-place
invariant-loop-place l = ArePairsOf l.low l.high (take l.place l.pairs)

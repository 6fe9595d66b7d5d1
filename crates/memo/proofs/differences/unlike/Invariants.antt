use Rattle.std.proofs.Common.{◌≡◌, ◌++◌, drop, filter}
use Rattle.memo.specs.Differences.{differs}
use Rattle.memo.proofs.differences.unlike.Given as goal

-- what was found so far, with what is to come, is all
abbrev pub invariant-loop-pair : goal.invariant-loop-pair
invariant-loop-pair l = l.unlike.items ++ filter (differs l.others) (drop l.pair-index l.pairs) ≡ filter (differs l.others) l.pairs

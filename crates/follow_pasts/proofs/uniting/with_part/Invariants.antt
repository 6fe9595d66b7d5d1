use Rattle.std.proofs.Common.{◌≡◌, ◌++◌, take}
use Rattle.follow_pasts.proofs.uniting.with_part.Given as goal

-- the result is right for the ranges so far
abbrev pub invariant-loop-range : goal.invariant-loop-range
invariant-loop-range l = l.ranges.items ≡ l.fn.united.ranges.items ++ take l.range-index l.part.ranges.items

use Rattle.packed_map.proofs.Common.{◌≡◌, ◌++◌, take, keys_between}
use Rattle.packed_map.proofs.ranges.push_within.Given as goal

-- the keys of the entries so far
abbrev pub invariant-loop-entry : goal.invariant-loop-entry
invariant-loop-entry g l = l.keys.items ≡ l.initial.keys.items ++ keys_between l.low l.high (take l.entry-index l.entries)

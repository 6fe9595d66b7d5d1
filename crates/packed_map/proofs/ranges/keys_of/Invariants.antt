use Rattle.packed_map.proofs.Common.{◌≡◌, take, entries_of, keys_between}
use Rattle.packed_map.proofs.ranges.keys_of.Given as goal

-- the keys of the leaves so far
abbrev pub invariant-loop-leaf : goal.invariant-loop-leaf
invariant-loop-leaf g l = l.keys.items ≡ keys_between l.low l.high (entries_of (take l.leaf-index l.leaf-items))

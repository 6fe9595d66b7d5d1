use Rattle.packed_map.proofs.Common.{◌≡◌, map, take, entries_of}
use Rattle.packed_map.proofs.ranges.all_keys.Given as goal

-- the keys of the leaves so far
abbrev pub invariant-loop-leaf : goal.invariant-loop-leaf
invariant-loop-leaf g l = l.keys.items ≡ map (λ e. e.0) (entries_of (take l.leaf-index l.leaves))

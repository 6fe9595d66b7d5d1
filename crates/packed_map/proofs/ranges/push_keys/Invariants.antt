use Rattle.std.proofs.Common.{◌≡◌, ◌++◌, map, take}
use Rattle.packed_map.proofs.ranges.push_keys.Given as goal

-- the keys of the entries so far
abbrev pub invariant-loop-entry : goal.invariant-loop-entry
invariant-loop-entry g l = l.keys.items ≡ l.initial.keys.items ++ map (λ e. e.0) (take l.entry-index l.entries)

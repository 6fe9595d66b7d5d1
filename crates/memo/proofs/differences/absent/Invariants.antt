use Rattle.std.proofs.Common.{◌≡◌, ◌++◌, drop, filter, is_none}
use Rattle.map_object.specs.MapObject.{value_at}
use Rattle.memo.proofs.differences.absent.Given as goal

-- what was found so far, with what is to come, is all
abbrev pub invariant-loop-pair : goal.invariant-loop-pair
invariant-loop-pair l = l.absent.items ++ filter (λ pair. is_none (value_at l.others pair.0)) (drop l.pair-index l.pairs) ≡ filter (λ pair. is_none (value_at l.others pair.0)) l.pairs

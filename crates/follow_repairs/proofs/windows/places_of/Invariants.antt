use Rattle.follow_repairs.proofs.Common.{◌≡◌, take, map, slice_index}
use Rattle.follow_repairs.proofs.windows.places_of.Given as goal

-- the result is right for the order so far
abbrev pub invariant-loop-place : goal.invariant-loop-place
invariant-loop-place l = l.more.items ≡ map (slice_index l.left) (take l.place-index l.order)

use Rattle.follow_repairs.proofs.Common.{◌≡◌, take, calls_at}
use Rattle.follow_repairs.proofs.windows.copies_of.Given as goal

-- the result is right for the places so far
abbrev pub invariant-loop-place : goal.invariant-loop-place
invariant-loop-place l = l.copies.items ≡ calls_at l.calls (take l.place-index l.places)

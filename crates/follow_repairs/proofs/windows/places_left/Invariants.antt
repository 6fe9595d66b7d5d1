use Rattle.follow_repairs.proofs.Common.{◌≤◌, length, places}
use Rattle.follow_repairs.proofs.LeftLemmas.{AreLeftBelow}
use Rattle.follow_repairs.proofs.windows.places_left.Given as goal

-- the places so far are those left below this place
abbrev pub invariant-loop-place : goal.invariant-loop-place
invariant-loop-place l = (l.place ≤ length l.calls) × AreLeftBelow (places l.front.levels.items) l.left.items l.place

use Rattle.explain_shrink.proofs.Common.{◌≡◌, drop, has_number}
use Rattle.explain_shrink.proofs.rests.has_place.Given as goal

-- the places so far are others
abbrev pub invariant-loop-listed : goal.invariant-loop-listed
invariant-loop-listed l = has_number (drop l.listed-index l.places) l.place ≡ has_number l.places l.place

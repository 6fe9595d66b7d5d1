use Rattle.explain_histories.proofs.Common.{ℕ, length, AreSeated}
use Rattle.explain_histories.proofs.seating.end_before.Given as goal

-- the calls are seated as before, except for some that have ended
abbrev pub invariant-loop-at : goal.invariant-loop-at
invariant-loop-at l = (count : ℕ) → AreSeated l.calls count l.place l.initial.seats → AreSeated l.calls count l.place l.seats

abbrev pub decreases-loop-at : goal.decreases-loop-at
decreases-loop-at l = length l.seats.open_seats.items

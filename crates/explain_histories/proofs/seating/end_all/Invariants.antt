use Rattle.explain_histories.proofs.Common.{ℕ, length, AreSeated}
use Rattle.explain_histories.proofs.seating.end_all.Given as goal

-- all calls are seated as before, except for some that have ended
abbrev pub invariant-loop-at : goal.invariant-loop-at
invariant-loop-at l =
    (limit : ℕ) → AreSeated l.calls (length l.calls) limit l.initial.seats → (higher : ℕ) × AreSeated l.calls (length l.calls) higher l.seats

abbrev pub decreases-loop-at : goal.decreases-loop-at
decreases-loop-at l = length l.seats.open_seats.items

use Rattle.explain_histories.proofs.Common.{◌≡◌, begun_of, AreSeated}
use Rattle.explain_histories.proofs.seating.seat_all.Given as goal

-- the calls so far are seated
abbrev pub invariant-loop-number : goal.invariant-loop-number
invariant-loop-number l = record {
  begun : l.begun ≡ begun_of l.calls l.number;
  seated : AreSeated l.calls 0 0 l.initial.seats → AreSeated l.calls l.number l.begun l.seats;
}

use Rattle.explain_histories.proofs.Common.{◌≡◌, take, None, All, MatchOption, IsFirstAmong}
use Rattle.explain_histories.proofs.seats.first_answer.Given as goal

-- the first of those so far, or none of these is answered
abbrev pub invariant-loop-at : goal.invariant-loop-at
invariant-loop-at l =
    MatchOption l.first (All (λ s. s.res ≡ None) (take l.at l.open_seats)) (IsFirstAmong l.open_seats (take l.at l.open_seats))

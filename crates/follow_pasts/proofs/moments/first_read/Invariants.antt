use Rattle.follow_pasts.proofs.Common.{take, MatchOption, AreBegunAfter, HaveNoRead}
use Rattle.follow_pasts.proofs.moments.first_read.Given as goal

-- when the first of the reads so far began
abbrev pub invariant-loop-read : goal.invariant-loop-read
invariant-loop-read l =
    MatchOption l.first (HaveNoRead l.ranges (take l.read-index l.reads)) (AreBegunAfter l.ranges (take l.read-index l.reads))

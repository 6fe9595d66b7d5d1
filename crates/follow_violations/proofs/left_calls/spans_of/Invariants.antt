use Rattle.follow_violations.proofs.Common.{kept_of, AreAdded, IsSpanIn, [], take}
use Rattle.follow_violations.proofs.left_calls.spans_of.Given as goal

-- the calls that are left in the pasts so far
abbrev pub invariant-loop-past : goal.invariant-loop-past
invariant-loop-past l = AreAdded (λ past. IsSpanIn (kept_of past)) (take l.past-index l.pasts) [] l.spans.items

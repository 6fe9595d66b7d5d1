use Rattle.follow_violations.proofs.Common.{AreAdded, IsSpanAt, [], take}
use Rattle.follow_violations.proofs.left_calls.invoked_at.Given as goal

-- the events of the calls so far that have the key
abbrev pub invariant-loop-span : goal.invariant-loop-span
invariant-loop-span l = AreAdded (IsSpanAt l.key) (take l.span-index l.spans) [] l.invoked.items

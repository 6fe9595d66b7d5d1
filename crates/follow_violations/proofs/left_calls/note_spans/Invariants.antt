use Rattle.follow_violations.proofs.Common.{AreAdded, IsSpanOf, take}
use Rattle.follow_violations.proofs.left_calls.note_spans.Given as goal

-- the calls so far
abbrev pub invariant-loop-call : goal.invariant-loop-call
invariant-loop-call l = AreAdded IsSpanOf (take l.call-index l.calls) l.initial.spans.items l.spans.items

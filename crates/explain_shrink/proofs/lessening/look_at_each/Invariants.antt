use Rattle.explain_shrink.proofs.Common.{take, AllZip, IsReasonForOne}
use Rattle.explain_shrink.proofs.lessening.look_at_each.Given as goal

-- a reason for each call so far
abbrev pub invariant-loop-call : goal.invariant-loop-call
invariant-loop-call l = AllZip (IsReasonForOne l.map l.budget l.calls l.kept) (take l.call-index l.kept) l.reasons.items

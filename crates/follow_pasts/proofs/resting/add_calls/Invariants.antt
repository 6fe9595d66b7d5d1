use Rattle.follow_pasts.proofs.Common.{take, HasCalls}
use Rattle.follow_pasts.proofs.resting.add_calls.Given as goal

-- the keys of the calls so far
abbrev pub invariant-loop-call : goal.invariant-loop-call
invariant-loop-call l = HasCalls (take l.call-index l.calls) l.fn.busy.items l.busy.items

use Rattle.explain_histories.proofs.Common.{take, All, EndsOutside}
use Rattle.explain_histories.proofs.seating.all_end_outside.Given as goal

-- the calls so far end outside
abbrev pub invariant-loop-call : goal.invariant-loop-call
invariant-loop-call l = All (EndsOutside l.low l.high) (take l.call-index l.calls)

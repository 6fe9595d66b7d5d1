use Rattle.follow_violations.proofs.Common.{◌≡◌, ◌==◌, drop, list_any}
use Rattle.follow_violations.proofs.writers.is_left.Given as goal

-- none so far was invoked there
abbrev pub invariant-loop-call : goal.invariant-loop-call
invariant-loop-call l = list_any (λ o. o.inv == l.event) (drop l.call-index l.calls) ≡ list_any (λ o. o.inv == l.event) l.calls

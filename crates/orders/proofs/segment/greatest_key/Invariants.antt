use Rattle.orders.proofs.Common.{◌≡◌, take, map, greatest, high_key}
use Rattle.orders.proofs.segment.greatest_key.Given as goal

abbrev pub invariant-loop-operation : goal.invariant-loop-operation
invariant-loop-operation l = l.greatest ≡ greatest (map (λ a. high_key a.call) (take l.operation-index l.calls))

use Rattle.orders.proofs.Common.{◌≡◌, take, map, least, low_key}
use Rattle.orders.proofs.segment.least_key.Given as goal

abbrev pub invariant-loop-place : goal.invariant-loop-place
invariant-loop-place l = l.least ≡ least (map (λ a. low_key a.call) (take l.place l.calls))

use Rattle.std.proofs.Common.{◌≡◌, take}
use Rattle.orders.proofs.segment.copies.Given as goal

abbrev pub invariant-loop-call : goal.invariant-loop-call
invariant-loop-call l = l.taken.items ≡ take l.call-index l.calls

use Rattle.orders.proofs.Common.{◌≡◌, take, calls_at}
use Rattle.orders.proofs.segment.copies_of.Given as goal

abbrev pub invariant-loop-number : goal.invariant-loop-number
invariant-loop-number l = l.taken.items ≡ calls_at l.calls (take l.number-index l.numbers)

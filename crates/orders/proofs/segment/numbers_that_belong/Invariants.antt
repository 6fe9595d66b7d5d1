use Rattle.orders.proofs.BelongingLemmas.{BelongBelow}
use Rattle.orders.proofs.segment.numbers_that_belong.Given as goal

abbrev pub invariant-loop-number : goal.invariant-loop-number
invariant-loop-number l = BelongBelow l.calls l.number l.numbers.items

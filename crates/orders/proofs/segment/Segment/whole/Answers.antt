use Rattle.orders.proofs.Common.{◌<◌, length, arith, operations, All-from_contains, length-operations_le}
use Rattle.orders.proofs.BelongingLemmas.{BelongsAt-below}
use Rattle.orders.proofs.segment.Segment.whole.Goals as goal

pub numbers_that_belong-requires : goal.numbers_that_belong-requires
numbers_that_belong-requires c = rw c.calls.ensures.calls (let few = length-operations_le c.args.history.now.events
    c.calls.ensures.history.events in omega
    arith)

pub of-requires-clause-known : goal.of-requires-clause-known
of-requires-clause-known c =
    let calls = operations c.args.history.now.events in
    let numbers = c.in_ok-numbers.numbers.items in
    rw c.deref.ensures.value
    (All-from_contains (λ n. n < length calls) numbers
    (λ n h. BelongsAt-below calls n (rw (← c.calls.ensures.calls) ((c.in_ok-numbers.ensures.members n).0 h))))

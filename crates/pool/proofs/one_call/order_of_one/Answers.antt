use Rattle.pool.proofs.OneCallLemmas.{exact_order, exact_none}
use Rattle.pool.proofs.one_call.order_of_one.Goals as goal

pub returns-then-branch : goal.returns-then-branch
returns-then-branch c = λ budget two.
    let exact = exact_order c.args.segment.now _ c.numbers-numbers.ensures.segment c.requires c.in_ok-may_come_first.ensures c.if-branch.true in
    rw (c.in_ok-order.ensures.items, c.numbers-numbers.ensures.numbers) (exact.0, exact.1 budget two)

pub returns : goal.returns
returns c = λ budget two.
    let exact = exact_none c.args.segment.now _ c.numbers-numbers.ensures.segment c.requires c.in_ok-may_come_first.ensures c.if-branch.false in
    (exact.0, exact.1 budget two)

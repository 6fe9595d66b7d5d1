use Rattle.orders.proofs.Common.{◌≡◌, Some, length, refl, arith, slice_get, slice_get_read}
use Rattle.orders.proofs.BelongingLemmas.{BelongBelow-take, BelongBelow-skip, BelongBelow-all}
use Rattle.orders.proofs.segment.numbers_that_belong.Goals.{then-belongs+in_ok-push, else-belongs}
use Rattle.orders.proofs.segment.numbers_that_belong.Goals as goal

pub loop-number-preserved : goal.loop-number-preserved
loop-number-preserved c =
    let calls = c.args.calls.now in
    let i = c.loop-number.number in
    let a = c.index-calls-number.result in
    let here : slice_get calls i ≡ Some a = slice_get_read calls (length calls) i a refl c.loop-number-test.true c.index-calls-number.is in
    elim c.if-belongs.branch [
      | then-belongs+in_ok-push w ↦ rw (w.numbers-is, w.in_ok-push.ensures.items)
          (BelongBelow-take calls i c.loop-number.numbers.items a c.loop-number.invariant here cc)
      | else-belongs w ↦ rw w.numbers-is (BelongBelow-skip calls i c.loop-number.numbers.items a c.loop-number.invariant here cc)
    ]

pub returns-clause-members : goal.returns-clause-members
returns-clause-members c =
    let end : c.loop-number.number ≡ length c.args.calls.now = omega arith in
    BelongBelow-all c.args.calls.now c.loop-number.numbers.items (rw end at c.loop-number.invariant)

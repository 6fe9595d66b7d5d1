use Rattle.orders.proofs.Common.{◌≡◌, Some, length, get_or, refl, slice_get, slice_get_read}
use Rattle.orders.proofs.OrderLemmas.{calls_at-more}
use Rattle.orders.proofs.segment.copies_of.Goals as goal

pub loop-number-preserved : goal.loop-number-preserved
loop-number-preserved c =
    let calls = c.args.calls.now in
    let numbers = c.args.numbers.now in
    let i = c.loop-number.number-index in
    let here : slice_get calls (get_or numbers i 0) ≡ Some c.index-calls-number.result =
    slice_get_read calls (length calls) (get_or numbers i 0) c.index-calls-number.result refl
    (c.requires i 0 c.loop-number-test.true) c.index-calls-number.is in
    let more = calls_at-more calls numbers i 0 c.index-calls-number.result c.loop-number-test.true here in
    cc (c.in_ok-push_copy.ensures)

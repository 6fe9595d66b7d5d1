use Rattle.draw_picture.proofs.Common.{◌≡◌, Some, length, refl, ap, arith, slice_get, slice_get_read}
use Rattle.draw_picture.proofs.BarLemmas.{bar-more}
use Rattle.draw_picture.proofs.bars.push_bars.Goals as goal

pub bar_of-requires-clause-call : goal.bar_of-requires-clause-call
bar_of-requires-clause-call c =
    let calls = c.calls-calls.result.now in
    let i = c.loop-number.number in
    let a = c.index-calls-number.result in
    let here : slice_get calls i ≡ Some a = slice_get_read calls (length calls) i a refl c.loop-number-test.true c.index-calls-number.is in
    rw c.calls-calls.ensures.calls at here

pub loop-number-preserved : goal.loop-number-preserved
loop-number-preserved c =
    let calls = c.calls-calls.result.now in
    let i = c.loop-number.number in
    let a = c.index-calls-number.result in
    let here : slice_get calls i ≡ Some a = slice_get_read calls (length calls) i a refl c.loop-number-test.true c.index-calls-number.is in
    let call = rw c.calls-calls.ensures.calls at here in
    rw c.in_ok-push.ensures.items (bar-more _ _ _ _ _ _ a _ c.loop-number.invariant call c.in_ok-bar_of.ensures)

pub returns : goal.returns
returns c =
    let same = ap length c.calls-calls.ensures.calls in
    record {
      one_each = omega (arith, same, c.loop-number.invariant.many);
      each = c.loop-number.invariant.each;
    }

use Rattle.search.proofs.Common.{◌≡◌, ◌-◌, ◌<◌, Some, length, get_or, refl, arith, slice_get, slice_get_read, All-contains, Contains-get_or}
use Rattle.search.proofs.OpenLemmas.{IsNoLater-from_read, passed_back, stopped_back}
use Rattle.search.proofs.standing.place_by_answer.Goals as goal

pub loop-at-preserved : goal.loop-at-preserved
loop-at-preserved c =
    let calls = c.args.calls.now in
    let order = c.args.order.now in
    let at = c.loop-at.at in
    let n = c.args.place in
    let m = get_or order (at - 1) 0 in
    let le = c.loop-at.invariant.0 in
    let some : 0 < at = omega (arith, c.loop-at-test.true) in
    let in_order : at - 1 < length order = omega (arith, le, some) in
    let known : m < n = All-contains (λ k. k < n) order m c.requires.sorted.below (Contains-get_or order (at - 1) 0 in_order) in
    let here : slice_get calls m ≡ Some c.index-calls-order.result =
    slice_get_read calls (length calls) m c.index-calls-order.result refl (omega (arith, known, c.requires.known)) c.index-calls-order.is in
    let there : slice_get calls n ≡ Some c.index-calls-place.result =
    slice_get_read calls (length calls) n c.index-calls-place.result refl c.requires.known c.index-calls-place.is in (
      omega (arith, le),
      passed_back calls order at n 0 some le
          (IsNoLater-from_read calls n m c.index-calls-place.result c.index-calls-order.result there here
          (c.is_later.ensures.later c.if-is_later.true)) c.loop-at.invariant.1,
    )

pub returns-else-is_later-clause-before : goal.returns-else-is_later-clause-before
returns-else-is_later-clause-before c =
    let calls = c.args.calls.now in
    let order = c.args.order.now in
    let at = c.loop-at.at in
    let n = c.args.place in
    let m = get_or order (at - 1) 0 in
    let le = c.loop-at.invariant.0 in
    let some : 0 < at = omega (arith, c.loop-at-test.true) in
    let in_order : at - 1 < length order = omega (arith, le, some) in
    let known : m < n = All-contains (λ k. k < n) order m c.requires.sorted.below (Contains-get_or order (at - 1) 0 in_order) in
    let here : slice_get calls m ≡ Some c.index-calls-order.result =
    slice_get_read calls (length calls) m c.index-calls-order.result refl (omega (arith, known, c.requires.known)) c.index-calls-order.is in
    let there : slice_get calls n ≡ Some c.index-calls-place.result =
    slice_get_read calls (length calls) n c.index-calls-place.result refl c.requires.known c.index-calls-place.is in
    stopped_back calls n order at n 0 c.requires.sorted le
    (λ _. IsNoLater-from_read calls m n c.index-calls-order.result c.index-calls-place.result here there
    (c.is_later.ensures.no_later c.if-is_later.false))

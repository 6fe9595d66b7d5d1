use Rattle.merge_orders.proofs.Common.{◌≡◌, ℕ, ◌+◌, Some, length, get_or, refl, ap, ◌∙◌, slice_get, slice_get_read, CallAtPoint}
use Rattle.merge_orders.proofs.PlacedLemmas.{latest, latest-more, at_point_in-more, behind-more}
use Rattle.merge_orders.proofs.points.push_order.Goals as goal

pub loop-number-preserved : goal.loop-number-preserved
loop-number-preserved c =
    let calls = c.args.calls.now in
    let order = c.args.order.now in
    let i = c.loop-number.number-index in
    let a = c.index-calls-number.result in
    let below = c.loop-number-test.true in
    let here : slice_get calls (get_or order i 0) ≡ Some a =
    slice_get_read calls (length calls) (get_or order i 0) a refl (c.requires.known i 0 below) c.index-calls-number.is in
    let next = latest-more calls order i 0 a below here in
    let point : c.max-point.result ≡ latest calls order (i + 1) = cc (c.max-point.ensures) in
    let same = λ (p : ℕ). let call : CallAtPoint = record { point = p; number = get_or order i 0 } in call in
    record {
      point = point;
      placed =
          behind-more _ _ _ _ _ _ _ c.loop-number.invariant.placed
          (at_point_in-more calls order i 0 a c.requires.distinct below here) c.in_ok-push.ensures.items (ap same (point ∙ next));
    }

use Rattle.draw_picture.proofs.Common.{◌≡◌, ◌+◌, ◌++◌, [], ◌∷◌, Some, length, get_or, refl, ap, ◌∙◌, slice_get, slice_get_read, latest, latest-more}
use Rattle.draw_picture.proofs.ColumnLemmas.{points-more}
use Rattle.draw_picture.proofs.columns.points_of.Goals as goal

pub loop-number-preserved : goal.loop-number-preserved
loop-number-preserved c =
    let calls = c.args.calls.now in
    let order = c.args.order.now in
    let i = c.loop-number.number-index in
    let a = c.index-calls-number.result in
    let below = c.loop-number-test.true in
    let here : slice_get calls (get_or order i 0) ≡ Some a =
    slice_get_read calls (length calls) (get_or order i 0) a refl (c.requires.known i 0 below) c.index-calls-number.is in
    let next = latest-more calls order i 0 a below here in
    let point : c.max-point.result ≡ latest calls order (i + 1) = cc (c.max-point.ensures) in
    record {
      point = point;
      points =
          c.in_ok-push.ensures.items
          ∙ (ap (λ items. items ++ c.max-point.result ∷ []) c.loop-number.invariant.points
          ∙ points-more calls order i 0 c.max-point.result c.requires.distinct below point);
    }

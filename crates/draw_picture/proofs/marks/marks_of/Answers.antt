use Rattle.draw_picture.proofs.Common.{◌≡◌, Some, length, get_or, refl, sym, ap, ◌∙◌, subst, arith, slice_get, slice_get_read, slice_get-get_or}
use Rattle.draw_picture.proofs.Common.{operations, Bar}
use Rattle.events.proofs.NumberLemmas.{slice_get-below}
use Rattle.draw_picture.proofs.MarkLemmas.{AreMarksBelow, point-at, point-within, mark-in-bar, mark-more, marks-rise}
use Rattle.draw_picture.proofs.marks.marks_of.Goals as goal

pub mark_at-requires-clause-point : goal.mark_at-requires-clause-point
mark_at-requires-clause-point c =
    let events = c.args.scene.now.history.now.events in
    let order = c.args.order.now in
    let place = c.loop-place.place in
    let n = get_or order place 0 in
    let order_here = slice_get-get_or order place 0 c.loop-place-test.true in
    let (a, here) = slice_get-below (operations events) n (c.requires.order.known place 0 c.loop-place-test.true) in
    rw c.requires.points (point-within events order place n a order_here here)

pub loop-place-preserved : goal.loop-place-preserved
loop-place-preserved c =
    let events = c.args.scene.now.history.now.events in
    let calls = operations events in
    let order = c.args.order.now in
    let bars = c.args.bars.now in
    let place = c.loop-place.place in
    let n = get_or order place 0 in
    let order_here = slice_get-get_or order place 0 c.loop-place-test.true in
    let known = c.requires.order.known place 0 c.loop-place-test.true in
    let (a, here) = slice_get-below calls n known in
    let bar = c.index-bars-number.result in
    let bar_here : slice_get bars n ≡ Some bar =
    slice_get_read bars (length bars) n bar refl (omega (arith, known, c.requires.bars.one_each)) c.index-bars-number.is in
    let point = c.mark_at.ensures.point ∙ ap (λ points. get_or points place 0) c.requires.points ∙ point-at calls order place n order_here in
    let spans = rw c.requires.points at c.requires.bars in
    let lane = c.mark_at.ensures.lane ∙ ap (λ (b : Bar). b.lane) (sym c.index-bars-number.is) in
    let column = rw c.requires.points at c.mark_at.ensures.column in
    rw c.in_ok-push.ensures.items (mark-more calls order bars place c.loop-place.marks.items _ c.loop-place.invariant (record {
      number = rw c.mark_at.ensures.number order_here;
      at_place = c.mark_at.ensures.place;
      point = rw c.mark_at.ensures.number point;
      column = column;
      inside = rw c.mark_at.ensures.number (mark-in-bar events order bars place n a bar _ c.requires.order spans order_here here bar_here
          lane column);
    }))

pub returns : goal.returns
returns c =
    let calls = operations c.args.scene.now.history.now.events in
    let end : c.loop-place.place ≡ length c.args.order.now = omega arith in
    marks-rise calls c.args.order.now c.args.bars.now c.loop-place.marks.items c.requires.order.distinct
    (subst (λ size. AreMarksBelow calls c.args.order.now c.args.bars.now size c.loop-place.marks.items) end c.loop-place.invariant)

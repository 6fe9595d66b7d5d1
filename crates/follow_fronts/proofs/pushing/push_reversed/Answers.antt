use Rattle.follow_fronts.proofs.Common.{◌≡◌, ◌-◌, ◌<◌, Some, length, get_or, refl, ◌∙◌, slice_get, slice_get_read, places}
use Rattle.follow_fronts.proofs.MendLemmas.{known-reversed, next-reversed, more-reversed}
use Rattle.follow_fronts.proofs.pushing.push_reversed.Goals as goal

pub bounds-calls-place : goal.bounds-calls-place
bounds-calls-place c =
    let w = c.loop-depth.front in
    known-reversed w.start c.args.calls.now (places c.args.front.now.levels.items) c.args.back.now (places w.levels.items) c.loop-depth.depth
    c.loop-depth-test.true c.loop-depth.auto.depth c.loop-depth.invariant.2 c.requires.closed

pub push-requires-clause-next : goal.push-requires-clause-next
push-requires-clause-next c =
    let calls = c.args.calls.now in
    let path = places c.args.front.now.levels.items in
    let w = c.loop-depth.front in
    let now = places w.levels.items in
    let back = c.args.back.now in
    let depth = c.loop-depth.depth in
    let inv = c.loop-depth.invariant in
    let n = get_or back (depth - 1) 0 in
    let a = c.index-calls-place.result in
    let lt : n < length calls =
    known-reversed w.start calls path back now depth c.loop-depth-test.true c.loop-depth.auto.depth inv.2 c.requires.closed in
    let here : slice_get calls n ≡ Some a = slice_get_read calls (length calls) n a refl lt c.index-calls-place.is in
    next-reversed w.start calls path back now depth c.loop-depth-test.true c.loop-depth.auto.depth inv.2 a here w.map inv.0.holds c.requires.closed
    (c.may_come_next.ensures.0 c.if-not-may_come_next.false)

pub loop-depth-preserved : goal.loop-depth-preserved
loop-depth-preserved c =
    let path = places c.args.front.now.levels.items in
    let w = c.loop-depth.front in
    let inv = c.loop-depth.invariant in
    let n = c.push.new.front in (
      c.in_ok-push.ensures.stands,
      c.in_ok-push.ensures.start ∙ inv.1,
      more-reversed w.start c.args.calls.now path c.args.back.now (places w.levels.items) c.loop-depth.depth c.loop-depth-test.true
          c.loop-depth.auto.depth inv.2 (places n.levels.items) c.in_ok-push.ensures.places,
    )

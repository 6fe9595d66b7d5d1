use Rattle.follow_fronts.proofs.Common.{◌≡◌, ◌++◌, Some, length, get_or, refl, sym, ap, ◌∙◌, arith, slice_get, both_ways, append-nil, take_all}
use Rattle.follow_fronts.proofs.Common.{slice_get_read, places}
use Rattle.follow_fronts.proofs.ClosedLemmas.{known_at, next_at, legal_at, more_at}
use Rattle.follow_fronts.proofs.pushing.push_all.Goals as goal

pub bounds-calls-place : goal.bounds-calls-place
bounds-calls-place c =
    let path = places c.args.front.now.levels.items in
    let w = c.loop-place.front in
    known_at w.start c.args.calls.now path c.args.more.now (places w.levels.items) c.loop-place.place-index c.loop-place-test.true
    c.loop-place.invariant.2 c.requires.closed

pub returns-then-not-may_come_next-clause-refused : goal.returns-then-not-may_come_next-clause-refused
returns-then-not-may_come_next-clause-refused c = λ no front.
    let calls = c.args.calls.now in
    let path = places c.args.front.now.levels.items in
    let w = c.loop-place.front in
    let i = c.loop-place.place-index in
    let more = c.args.more.now in
    let inv = c.loop-place.invariant in
    let a = c.index-calls-place.result in
    let lt = known_at w.start calls path more (places w.levels.items) i c.loop-place-test.true inv.2 c.requires.closed in
    let here : slice_get calls (get_or more i 0) ≡ Some a = slice_get_read calls (length calls) (get_or more i 0) a refl lt c.index-calls-place.is in
    both_ways c.may_come_next.result c.if-not-may_come_next.true
    (c.may_come_next.ensures.1
    (legal_at c.args.front.now.start calls path more (places w.levels.items) i c.loop-place-test.true inv.2 a here w.map
    (rw inv.1 at inv.0.holds) front))

pub push-requires-clause-next : goal.push-requires-clause-next
push-requires-clause-next c =
    let calls = c.args.calls.now in
    let path = places c.args.front.now.levels.items in
    let w = c.loop-place.front in
    let i = c.loop-place.place-index in
    let more = c.args.more.now in
    let inv = c.loop-place.invariant in
    let a = c.index-calls-place.result in
    let lt = known_at w.start calls path more (places w.levels.items) i c.loop-place-test.true inv.2 c.requires.closed in
    let here : slice_get calls (get_or more i 0) ≡ Some a = slice_get_read calls (length calls) (get_or more i 0) a refl lt c.index-calls-place.is in
    next_at w.start calls path more (places w.levels.items) i c.loop-place-test.true inv.2 a here w.map inv.0.holds c.requires.closed
    (c.may_come_next.ensures.0 c.if-not-may_come_next.false)

pub loop-place-init : goal.loop-place-init
loop-place-init c = (c.requires.stands, refl, sym (append-nil (places c.args.front.now.levels.items)))

pub loop-place-preserved : goal.loop-place-preserved
loop-place-preserved c =
    let path = places c.args.front.now.levels.items in
    let w = c.loop-place.front in
    let inv = c.loop-place.invariant in
    let n = c.push.new.front in (
      c.in_ok-push.ensures.stands,
      c.in_ok-push.ensures.start ∙ inv.1,
      more_at w.start c.args.calls.now path c.args.more.now (places w.levels.items) c.loop-place.place-index c.loop-place-test.true inv.2
          (places n.levels.items) c.in_ok-push.ensures.places,
    )

pub returns-clause-all : goal.returns-clause-all
returns-clause-all c = λ yes.
    c.loop-place.invariant.2
    ∙ ap (λ xs. places c.args.front.now.levels.items ++ xs) (take_all c.loop-place.place-index c.args.more.now (omega (arith, c.loop-place-test.false)))

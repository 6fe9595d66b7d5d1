use Rattle.search_choices.proofs.Common.{◌≡◌, Some, length, refl, slice_get, slice_get_read, places}
use Rattle.search_choices.proofs.IdleLemmas.{free-none, free-more, free-late, free-all}
use Rattle.search_choices.proofs.idle.is_free.Goals as goal

pub loop-place-init : goal.loop-place-init
loop-place-init g c =
    free-none c.args.calls.now (places c.args.standing.now.levels.items) c.args.answered c.args.low c.args.high c.args.standing.now.low
    c.requires.1.marked.below

pub returns-then-answered-call : goal.returns-then-answered-call
returns-then-answered-call g c = λ _.
    let calls = c.args.calls.now in
    let i = c.loop-place.place in
    let a = c.index-calls-place.result in
    let here : slice_get calls i ≡ Some a = slice_get_read calls (length calls) i a refl c.loop-place-test.true c.index-calls-place.is in
    free-late calls (places c.args.standing.now.levels.items) c.args.answered c.args.low c.args.high i a c.requires.0 here
    c.if-answered-call.true c.loop-place.invariant

pub loop-place-preserved : goal.loop-place-preserved
loop-place-preserved g c =
    free-more c.args.calls.now (places c.args.standing.now.levels.items) c.args.answered c.args.low c.args.high c.loop-place.place
    c.loop-place.invariant (λ p o is. c.may_change.ensures c.if-may_change.false c.args.answered p o is)

pub returns : goal.returns
returns g c = λ _.
    free-all c.args.calls.now (places c.args.standing.now.levels.items) c.args.answered c.args.low c.args.high c.loop-place.place
    c.loop-place-test.false c.loop-place.invariant

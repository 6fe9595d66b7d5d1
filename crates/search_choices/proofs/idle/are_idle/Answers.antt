use Rattle.search_choices.proofs.Common.{◌≡◌, Some, length, refl, slice_get, slice_get_read, places}
use Rattle.search_choices.proofs.IdleLemmas.{idle-none, idle-more, idle-late, idle-all}
use Rattle.search_choices.proofs.idle.are_idle.Goals as goal

pub loop-place-init : goal.loop-place-init
loop-place-init g c =
    idle-none c.args.calls.now (places c.args.standing.now.levels.items) c.args.answered c.args.standing.now.map c.args.standing.now.low
    c.requires.1.1.marked.below

pub returns-then-answered-call : goal.returns-then-answered-call
returns-then-answered-call g c = λ _.
    let calls = c.args.calls.now in
    let i = c.loop-place.place in
    let a = c.index-calls-place.result in
    let here : slice_get calls i ≡ Some a = slice_get_read calls (length calls) i a refl c.loop-place-test.true c.index-calls-place.is in
    idle-late calls (places c.args.standing.now.levels.items) c.args.answered c.args.standing.now.map i a c.requires.0 here
    c.if-answered-call.true c.loop-place.invariant

pub loop-place-preserved : goal.loop-place-preserved
loop-place-preserved g c =
    idle-more c.args.calls.now (places c.args.standing.now.levels.items) c.args.answered c.args.standing.now.map c.loop-place.place
    c.loop-place.invariant (λ a d. c.may_wait.ensures c.if-may_wait.false a d)

pub returns : goal.returns
returns g c = λ _.
    idle-all c.args.calls.now (places c.args.standing.now.levels.items) c.args.answered c.args.standing.now.map c.loop-place.place
    c.loop-place-test.false c.loop-place.invariant

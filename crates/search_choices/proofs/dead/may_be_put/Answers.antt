use Rattle.search_choices.proofs.Common.{◌≡◌, ◌<◌, ◌≤◌, nat_le, false, Some, length, refl, ap, ◌∙◌, arith, slice_get, leb-false, slice_get_read}
use Rattle.search_choices.proofs.Common.{Operation, places}
use Rattle.search_choices.proofs.DeadLemmas.{unput-taken, unput-more, unput-late, unput-all}
use Rattle.search_choices.proofs.dead.may_be_put.Goals.{else-not-is_taken-via-then-not-is_taken+else-may_put, else-not-is_taken-via-else-not-is_taken}
use Rattle.search_choices.proofs.dead.may_be_put.Goals as goal

pub returns-then-last-call : goal.returns-then-last-call
returns-then-last-call g c = λ _.
    let calls = c.args.calls.now in
    let i = c.loop-place.place in
    let a = c.index-calls-place.result in
    let within : i < length calls = omega (arith, c.loop-place-test.true, c.requires.1.1.1) in
    let here : slice_get calls i ≡ Some a = slice_get_read calls (length calls) i a refl within c.index-calls-place.is in
    unput-late calls (places c.args.standing.now.levels.items) c.args.last c.args.key c.args.value i a c.requires.0 here
    c.if-last-call.true c.loop-place.invariant

pub loop-place-preserved : goal.loop-place-preserved
loop-place-preserved g c =
    let calls = c.args.calls.now in
    let path = places c.args.standing.now.levels.items in
    let i = c.loop-place.place in
    let a = c.index-calls-place.result in
    let within : i < length calls = omega (arith, c.loop-place-test.true, c.requires.1.1.1) in
    let here : slice_get calls i ≡ Some a = slice_get_read calls (length calls) i a refl within c.index-calls-place.is in
    elim c.else-not-is_taken.branch [
      | else-not-is_taken-via-then-not-is_taken+else-may_put w ↦ unput-more calls path c.args.last c.args.key c.args.value i a here
          (w.may_put.ensures w.if-may_put.false) c.loop-place.invariant
      | else-not-is_taken-via-else-not-is_taken w ↦ unput-taken calls path c.args.last c.args.key c.args.value i
          (c.is_taken.ensures.0 w.if-not-is_taken.false) c.loop-place.invariant
    ]

pub returns-then-end-calls : goal.returns-then-end-calls
returns-then-end-calls g c = λ _.
    let calls = c.args.calls.now in
    let all : length calls ≤ c.loop-place.place = omega (arith, c.loop-place-test.false, c.if-end-calls.true) in
    unput-all calls (places c.args.standing.now.levels.items) c.args.last c.args.key c.args.value c.loop-place.place all
    c.loop-place.invariant

pub returns : goal.returns
returns g c = λ no.
    let calls = c.args.calls.now in
    let a = c.index-calls-end.result in
    let within : c.args.end < length calls = omega (arith, c.if-end-calls.false, c.requires.1.1.1) in
    let here : slice_get calls c.args.end ≡ Some a = slice_get_read calls (length calls) c.args.end a refl within c.index-calls-end.is in
    let begins : nat_le a.inv c.args.last ≡ false = ap (λ (b : Operation). nat_le b.inv c.args.last) c.index-calls-end.is ∙ no in
    unput-late calls (places c.args.standing.now.levels.items) c.args.last c.args.key c.args.value c.args.end a c.requires.0 here
    (leb-false a.inv c.args.last begins)
    (λ n p left lt. c.loop-place.invariant n p left (omega (arith, lt, c.loop-place-test.false)))

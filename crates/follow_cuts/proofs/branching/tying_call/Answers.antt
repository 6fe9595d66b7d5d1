use Rattle.follow_cuts.proofs.Common.{AreTaken, Bool, ◌≡◌, Some, false, length, refl, ◌∙◌, subst, List, arith, slice_get, slice_get_read, slice_get_within, get_or_from_slice_get}
use Rattle.follow_cuts.proofs.EndLemmas.{not_tied_after, not_tied_more, not_tied_taken}
use Rattle.follow_cuts.proofs.branching.tying_call.Goals as goal

pub returns-then-answered-call-clause-none : goal.returns-then-answered-call-clause-none
returns-then-answered-call-clause-none c =
    let calls = c.args.calls.now in
    let n = c.loop-place.place in
    let a = c.index-calls-place.result in
    let here : slice_get calls n ≡ Some a = slice_get_read calls (length calls) n a refl c.loop-place-test.true c.index-calls-place.is in
    λ is_none. not_tied_after calls c.args.position.now.taken.items n c.args.answered c.args.keys.now c.args.position.now.map a c.requires.rising here c.if-answered-call.true c.loop-place.invariant

pub loop-place-preserved-then-index : goal.loop-place-preserved-then-index
loop-place-preserved-then-index c =
    not_tied_taken c.args.calls.now c.args.position.now.taken.items c.loop-place.place c.after_taken-place.result c.args.answered c.args.keys.now
    c.args.position.now.map (subst (λ (l : List Bool). AreTaken l c.loop-place.place c.after_taken-place.result)
    (c.deref.ensures.value) c.after_taken-place.ensures) c.loop-place.invariant

pub loop-place-preserved : goal.loop-place-preserved
loop-place-preserved c =
    let calls = c.args.calls.now in
    let n = c.loop-place.place in
    let a = c.index-calls-place.result in
    let here : slice_get calls n ≡ Some a = slice_get_read calls (length calls) n a refl c.loop-place-test.true c.index-calls-place.is in
    not_tied_more calls c.args.position.now.taken.items n c.args.answered c.args.keys.now c.args.position.now.map a here
    (c.ties.ensures c.if-ties.false) c.loop-place.invariant

pub returns-clause-none : goal.returns-clause-none
returns-clause-none c =
    λ is_none n o is_left early.
    c.loop-place.invariant n o (omega (arith, slice_get_within c.args.calls.now n o is_left.here, c.loop-place-test.false)) is_left early

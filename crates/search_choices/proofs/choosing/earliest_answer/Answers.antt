use Rattle.search_choices.proofs.Common.{◌≡◌, ◌+◌, ◌<◌, Some, length, refl, sym, ◌∙◌, subst, arith, slice_get, both_ways, slice_get_read, some_at}
use Rattle.search_choices.proofs.Common.{IsEarliestAnswer, places}
use Rattle.search_choices.proofs.EarliestLemmas.{IsEarliestBelow, earliest-taken, earliest-skip, earliest-take, earliest-all, earliest-before}
use Rattle.search_choices.proofs.choosing.earliest_answer.Goals.{then-not-is_taken, else-not-is_taken}
use Rattle.search_choices.proofs.choosing.earliest_answer.Goals as goal

pub loop-place-init : goal.loop-place-init
loop-place-init g c =
    let w = c.args.standing.now in
    earliest-taken c.args.calls.now (places w.levels.items) w.low c.requires.1.1.marked.below

pub is_taken-requires : goal.is_taken-requires
is_taken-requires g c =
    let s = c.requires.1.1 in
    record { known = omega (arith, s.marked.all, c.loop-place-test.true); marks = s.marked.marks c.loop-place.place c.loop-place-test.true }

pub returns-then-ended_after : goal.returns-then-ended_after
returns-then-ended_after g c =
    let calls = c.args.calls.now in
    let path = places c.args.standing.now.levels.items in
    let i = c.loop-place.place in
    let a = c.index-calls-place.result in
    let here : slice_get calls i ≡ Some a = slice_get_read calls (length calls) i a refl c.loop-place-test.true c.index-calls-place.is in
    let (answered, is, late) = some_at c.loop-place.earliest (λ answered. answered < a.inv) (c.ended_after.ensures.0 c.if-ended_after.true) in
    subst (IsEarliestAnswer calls path) (sym is)
    (earliest-before calls path i answered a c.requires.0 c.requires.1.0 here late
    (subst (IsEarliestBelow calls path i) is c.loop-place.invariant))

pub loop-place-preserved : goal.loop-place-preserved
loop-place-preserved g c =
    let calls = c.args.calls.now in
    let path = places c.args.standing.now.levels.items in
    let i = c.loop-place.place in
    let a = c.index-calls-place.result in
    let here : slice_get calls i ≡ Some a = slice_get_read calls (length calls) i a refl c.loop-place-test.true c.index-calls-place.is in
    elim c.if-not-is_taken.branch [
      | then-not-is_taken w ↦ subst (IsEarliestBelow calls path (i + 1)) (sym (w.earliest-is ∙ w.earlier_answer-earliest.ensures))
          (earliest-take calls path i a c.loop-place.earliest here
          (λ h. both_ways c.is_taken.result w.if-not-is_taken.true (c.is_taken.ensures.1 h))
          c.loop-place.invariant)
      | else-not-is_taken w ↦ subst (IsEarliestBelow calls path (i + 1)) (sym w.earliest-is)
          (earliest-skip calls path i c.loop-place.earliest (c.is_taken.ensures.0 w.if-not-is_taken.false) c.loop-place.invariant)
    ]

pub returns : goal.returns
returns g c =
    earliest-all c.args.calls.now (places c.args.standing.now.levels.items) c.loop-place.place c.loop-place.earliest
    c.loop-place-test.false c.loop-place.invariant

use Rattle.follow_cuts.proofs.Common.{◌≡◌, ◌≤◌, Some, false, get_or, length, refl, sym, ◌∙◌, subst, arith, slice_get, both_ways, slice_get_read}
use Rattle.follow_cuts.proofs.Common.{same_Some, Operation, is_before}
use Rattle.follow_cuts.proofs.EndLemmas.{ends_skip, ends_taken, ends_take, ends_here, ends_all}
use Rattle.follow_cuts.proofs.stepping.first_ended.Goals.{then-answered-earliest, else-answered-earliest}
use Rattle.follow_cuts.proofs.stepping.first_ended.Goals as goal

pub returns-then-earliest-calls : goal.returns-then-earliest-calls
returns-then-earliest-calls c =
    let calls = c.args.calls.now in
    let n = c.loop-place.place in
    let a = c.index-calls-place.result in
    ends_here calls c.args.taken.now c.args.moment n c.loop-place.earliest c.loop-place.first a c.requires.rising c.requires.apart
    (slice_get_read calls (length calls) n a refl c.loop-place-test.true c.index-calls-place.is)
    (subst (λ (p : Operation). c.loop-place.earliest ≤ p.inv) (sym c.index-calls-place.is) c.if-earliest-calls.true) c.loop-place.invariant

pub loop-place-preserved-then-taken-place : goal.loop-place-preserved-then-taken-place
loop-place-preserved-then-taken-place c =
    ends_taken c.args.calls.now c.args.taken.now c.args.moment c.loop-place.place c.after_taken-place.result c.loop-place.earliest
    c.loop-place.first c.after_taken-place.ensures c.loop-place.invariant

pub loop-place-preserved : goal.loop-place-preserved
loop-place-preserved c =
    let calls = c.args.calls.now in
    let taken = c.args.taken.now in
    let n = c.loop-place.place in
    let a = c.index-calls-place-in-loop-place.result in
    let here : slice_get calls n ≡ Some a =
    slice_get_read calls (length calls) n a refl c.loop-place-test.true c.index-calls-place-in-loop-place.is in
    let earliest = c.loop-place.earliest in
    elim c.if-answered-earliest.branch [
      | then-answered-earliest w ↦ rw (w.first-is, w.earliest-is)
          (ends_take calls taken c.args.moment n earliest c.loop-place.first a c.answer_before-answered.result
          (record { here = here; free = c.if-taken-place.false }) (c.answer_before-answered.ensures.answer w.if-answered-earliest.true)
          w.if-answered-earliest.true c.loop-place.invariant)
      | else-answered-earliest w ↦ rw (w.first-is, w.earliest-is)
          (ends_skip calls taken c.args.moment n earliest c.loop-place.first
          (λ o is_left.
          let one : a ≡ o = same_Some a o (sym here ∙ is_left.here) in
          subst (λ (p : Operation). is_before p.response earliest ≡ false) one
          (c.answer_before-answered.ensures.late w.if-answered-earliest.false))
          c.loop-place.invariant)
    ]

pub returns : goal.returns
returns c =
    ends_all c.args.calls.now c.args.taken.now c.args.moment c.loop-place.place c.loop-place.earliest c.loop-place.first
    (omega (arith, c.loop-place-test.false)) c.loop-place.invariant

use Rattle.explain_histories.proofs.Common.{◌≡◌, ◌+◌, ℕ, length, subst, arith, MatchBool-at_true, AreSeated, NoEventsHave}
use Rattle.explain_histories.proofs.StepLemmas.{begun_more}
use Rattle.explain_histories.proofs.seating.seat_all.Goals as goal

pub seat-requires-clause-place : goal.seat-requires-clause-place
seat-requires-clause-place c =
    let more = begun_more c.args.calls.now c.loop-number.number c.loop-number.begun c.index-calls-number.result c.loop-number-test.true
    c.loop-number.invariant.begun in
    omega (arith, c.later_place-begun.ensures, more)

pub loop-number-preserved : goal.loop-number-preserved
loop-number-preserved c =
    let calls = c.args.calls.now in
    let number = c.loop-number.number in
    let more = begun_more calls number c.loop-number.begun c.index-calls-number.result c.loop-number-test.true c.loop-number.invariant.begun in
    record {
      begun = omega (arith, c.later_place-begun.ensures, more);
      seated = λ start. MatchBool-at_true (AreSeated calls (number + 1) c.later_place-begun.result c.seat.new.seats) (NoEventsHave calls)
          c.if-not-fits.false
          (c.in_ok-fits.ensures (subst (λ (n : ℕ). AreSeated calls number n c.loop-number.seats) c.loop-number.invariant.begun
          (c.loop-number.invariant.seated start)));
    }

pub returns : goal.returns
returns c = λ start.
    let calls = c.args.calls.now in
    let all : c.loop-number.number ≡ length calls = omega arith in
    c.in_ok-end_all.ensures c.loop-number.begun
    (subst (λ (n : ℕ). AreSeated calls n c.loop-number.begun c.loop-number.seats) all (c.loop-number.invariant.seated start))

use Rattle.explain_histories.proofs.Common.{◌≡◌, ◌+◌, None, List, length, subst, arith, All, IsFirstAmong, Seat}
use Rattle.explain_histories.proofs.SeatedLemmas.{seated_higher, seated_events}
use Rattle.explain_histories.proofs.StepLemmas.{first_ends}
use Rattle.explain_histories.proofs.seating.end_all.Goals as goal

pub loop-at-preserved : goal.loop-at-preserved
loop-at-preserved c = λ limit seated.
    let calls = c.args.calls.now in
    let s = c.loop-at.seats in
    let at = c.in-Some.at in
    let res = c.in-Some.field-0-1 in
    let (higher, now) = c.loop-at.invariant limit seated in
    let first = subst (λ (l : List Seat). IsFirstAmong l l (at, res)) c.deref.ensures.value c.in-Some.ensures in (
      higher + (res + 1),
      c.in_ok-end.ensures.seated (length calls) (higher + (res + 1))
          (seated_higher calls (length calls) higher (higher + (res + 1)) s.free.items s.open_seats.items s.events.items (omega arith) now)
          (first_ends s.open_seats.items at res higher first),
    )

pub returns : goal.returns
returns c = λ limit seated.
    let s = c.loop-at.seats in
    let (higher, now) = c.loop-at.invariant limit seated in
    seated_events c.args.calls.now higher s.free.items s.open_seats.items s.events.items now
    (subst (All (λ (s : Seat). s.res ≡ None)) c.deref.ensures.value c.in_default.ensures)

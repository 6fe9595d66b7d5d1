use Rattle.explain_histories.proofs.Common.{◌≤◌, ◌∙◌, sym, arith, false≢true, begun_of}
use Rattle.explain_histories.proofs.SeatedLemmas.{seated_higher}
use Rattle.explain_histories.proofs.StepLemmas.{follows_at, refused_at, begun_rises}
use Rattle.explain_histories.proofs.seating.seat.Goals as goal

pub returns-then-not-may_follow : goal.returns-then-not-may_follow
returns-then-not-may_follow c = λ seated.
    refused_at c.args.calls.now c.args.number c.args.place c.index-calls-number.result c.requires.within c.index-calls-number.is c.requires.place
    (λ may. false≢true (sym c.if-not-may_follow.true ∙ c.may_follow.ensures.1 may))

pub returns : goal.returns
returns c = λ seated.
    let calls = c.args.calls.now in
    let number = c.args.number in
    let old = c.args.seats.now in
    let rises = begun_rises calls number c.index-calls-number.result c.requires.within in
    let up : begun_of calls number ≤ c.args.place = omega (arith, rises, c.requires.place) in
    c.in_ok-begun.ensures c.args.place
    (c.in_ok-end_before.ensures.seated number
    (seated_higher calls number (begun_of calls number) c.args.place old.free.items old.open_seats.items old.events.items up seated))
    c.in_ok-end_before.ensures.none c.requires.place
    (follows_at calls number c.args.place c.index-calls-number.result c.requires.within c.index-calls-number.is
    (c.may_follow.ensures.0 c.if-not-may_follow.false))
